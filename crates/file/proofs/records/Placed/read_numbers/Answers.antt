-- `read_numbers` meets its contract: what is read in all is what is read from here on, after the values so far.
use Prim.Native.Nat.{ℕ, ◌+◌, ◌-◌, ◌≤◌}
use mathlib.Core.Path.{◌≡◌, sym, ap, ◌∙◌}
use mathlib.Core.List.{List}
use native.Mathlib.Nat.{sub_self}
use native.Mathlib.Omega.{arith}
use lib.ListN.{length, take, drop, length-drop}
use lib.Seq.{take-set-le}
use Rattle.std.proofs.Common.{rules, length-take-le}
use Rattle.base.specs.Bytes.{number_of}
use Rattle.rules.specs.District.{district_places}
use Rattle.rules.specs.File.{widths, read_numbers}
use Rattle.rules.specs.Format.{field_at}
use Rattle.rules.specs.declared.Field.{Field}
use Rattle.grammar.proofs.Slots.{width_small}
use Rattle.file.proofs.Steps.{less, widths_step, number_good, number_bad, stored}
use Rattle.file.proofs.records.Placed.read_numbers.Goals as goal
use Rattle.grammar.specs.Slots.{slot_in}
use Rattle.file.proofs.records.Placed.read_numbers.Goals.{After-field_at-f}

-- what the field is by the definition, and the bytes that it leaves
field : (c : After-field_at-f) → let p = c.args.self in c.field_at-f.result ≡ field_at (take p.place c.args.d.now) (slot_in p.slot) c.loop-i.i
field c =
    let l = c.loop-i in
    let p = c.args.self in
    c.field_at-f.ensures ∙ sym (p.ready.field l.d l.i (omega arith)) ∙ ap (λ (u : List ℕ). field_at u (slot_in p.slot) l.i) l.invariant.2

left : (c : After-field_at-f) → let l = c.loop-i in let p = c.args.self in c.field_at-f.result.width + widths (p.slot.places - (l.i + 1)) (take p.place c.args.d.now) (slot_in p.slot) (l.i + 1) ≤ length l.rest.now
left c =
    let l = c.loop-i in
    let p = c.args.self in
    omega (arith, widths_step p.slot.places (take p.place c.args.d.now) (slot_in p.slot) l.i c.field_at-f.result (omega arith) (field c))

pub number-x-requires : goal.number-x-requires
number-x-requires c =
    let l = c.loop-i in
    omega (arith, width_small l.d (slot_in c.args.self.slot) l.i, ap (λ (f : Field). f.width) c.field_at-f.ensures, ap length c.split_at.ensures.front, length-take-le c.field_at-f.result.width l.rest.now (omega (arith, left (goal.at.number-x-requires c).After-field_at-f)))

pub returns-then-not-is_inside-clause-numbers : goal.returns-then-not-is_inside-clause-numbers
returns-then-not-is_inside-clause-numbers c =
    let l = c.loop-i in
    let p = c.args.self in
    let x = c.number-x in
    l.invariant.0
    ∙ ap (λ (m : ℕ). read_numbers m (take p.place c.args.d.now) (slot_in p.slot) l.i (take l.i (drop p.place l.d)) l.rest.now) (less p.slot.places l.i (omega arith))
    ∙ number_bad _ _ _ _ _ _ c.field_at-f.result x.result (field (goal.at.returns-then-not-is_inside-clause-numbers c).After-field_at-f) (x.ensures ∙ ap number_of c.split_at.ensures.front) (sym c.is_inside.ensures ∙ c.if-not-is_inside.true)

pub split_at-requires : goal.split_at-requires
split_at-requires c = omega (arith, left (goal.at.split_at-requires c).After-field_at-f)

pub loop-i-preserved : goal.loop-i-preserved
loop-i-preserved c =
    let l = c.loop-i in
    let p = c.args.self in
    let x = c.number-x in
    let u = take p.place c.args.d.now in
    let all : length l.d ≡ district_places = search rules in (
      l.invariant.0
          ∙ ap (λ (m : ℕ). read_numbers m u (slot_in p.slot) l.i (take l.i (drop p.place l.d)) l.rest.now) (less p.slot.places l.i (omega arith))
          ∙ number_good _ _ _ _ _ _ c.field_at-f.result x.result (field (goal.at.loop-i-preserved c).After-field_at-f) (x.ensures ∙ ap number_of c.split_at.ensures.front) (sym c.is_inside.ensures ∙ c.if-not-is_inside.false)
          ∙ rw (stored l.d p.place l.i x.result (omega (arith, p.ready.room)), c.split_at.ensures.back),
      omega (arith, left (goal.at.loop-i-preserved c).After-field_at-f, ap length c.split_at.ensures.back, length-drop c.field_at-f.result.width l.rest.now),
      take-set-le p.place l.d (p.place + l.i) x.result (omega arith) ∙ l.invariant.2,
    )

pub returns-clause-numbers : goal.returns-clause-numbers
unfolding read_numbers
returns-clause-numbers c =
    let l = c.loop-i in
    let z : l.i ≡ c.args.self.slot.places = omega arith in
    let k = rw z at l.invariant.0 in
    rw sub_self at k
