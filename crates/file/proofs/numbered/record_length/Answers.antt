-- `record_length` meets its contract.
use mathlib.Core.Path.{◌≡◌, sym, ap, ◌∙◌}
use native.Mathlib.Omega.{arith}
use lib.ListN.{length}
use Rattle.rules.specs.File.{record_bytes}
use Rattle.rules.specs.Format.{slot_of, Slot}
use Rattle.grammar.specs.Places.{start_of}
use Rattle.grammar.specs.Slots.{numbered_in}
use Rattle.grammar.proofs.Slots.{few_places}
use Rattle.file.proofs.Steps.{length_there, length_none, widths_small}
use Rattle.file.proofs.numbered.record_length.Goals as goal
use Rattle.file.proofs.numbered.record_length.Goals.{After-slot_at-slot}

same : (c : After-slot_at-slot) → let a = c.args in length (record_bytes a.d.now (numbered_in c.slot_at-slot.result) (start_of a.n)) ≡ length (record_bytes a.d.now (slot_of a.form a.n) (start_of a.n))
same c = ap (λ (s : Slot). length (record_bytes c.args.d.now s (start_of c.args.n))) c.slot_at-slot.ensures

pub payload-requires : goal.payload-requires
payload-requires c = omega (arith, few_places c.args.form c.args.n, ap (λ (s : Slot). s.places) c.slot_at-slot.ensures)

pub overflow_add-result : goal.overflow_add-result
overflow_add-result c =
    let s = c.slot_at-slot in
    omega (arith, c.payload.ensures, widths_small s.result.places c.args.d.now (numbered_in s.result) 0, few_places c.args.form c.args.n, ap (λ (t : Slot). t.places) s.ensures)

pub returns-then-is_present : goal.returns-then-is_present
returns-then-is_present c =
    let a = c.args in
    let s = numbered_in c.slot_at-slot.result in
    omega (arith, c.payload.ensures, length_there a.d.now s (start_of a.n) (sym c.is_present.ensures ∙ c.if-is_present.true), same (goal.at.returns-then-is_present c).After-slot_at-slot)

pub returns-else-is_present : goal.returns-else-is_present
returns-else-is_present c =
    let a = c.args in
    let s = numbered_in c.slot_at-slot.result in
    omega (arith, length_none a.d.now s (start_of a.n) (sym c.is_present.ensures ∙ c.if-is_present.false), same (goal.at.returns-else-is_present c).After-slot_at-slot)
