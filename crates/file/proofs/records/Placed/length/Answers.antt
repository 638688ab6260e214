-- `length` meets its contract.
use mathlib.Core.Path.{sym, ◌∙◌}
use native.Mathlib.Omega.{arith}
use Rattle.file.proofs.Steps.{length_there, length_none, widths_small}
use Rattle.grammar.specs.Slots.{slot_in}
use Rattle.file.proofs.records.Placed.length.Goals as goal

pub overflow_add-result : goal.overflow_add-result
overflow_add-result c =
    let a = c.args in
    omega (arith, c.payload.ensures, widths_small a.self.slot.places a.d.now (slot_in a.self.slot) 0)

pub returns-then-is_present : goal.returns-then-is_present
returns-then-is_present c =
    let a = c.args in
    omega (arith, c.payload.ensures, length_there a.d.now (slot_in a.self.slot) a.self.place (sym c.is_present.ensures ∙ c.if-is_present.true))

pub returns-else-is_present : goal.returns-else-is_present
returns-else-is_present c =
    let a = c.args in
    omega (arith, length_none a.d.now (slot_in a.self.slot) a.self.place (sym c.is_present.ensures ∙ c.if-is_present.false))
