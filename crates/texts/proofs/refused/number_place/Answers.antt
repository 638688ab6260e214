-- `refused::number_place` meets its contract: the place in all is that of the numbers from here on.
use Rattle.std.proofs.Common.{ℕ, ◌+◌, ◌-◌, ◌≡◌, length, drop, to_z, of_z, sym, ap, ap₂, ◌∙◌, arith, rules}
use mir.Syntax.{w128}
use lib.ListN.{length-take}
use native.Mathlib.Nat.{min-le_left}
use Rattle.base.specs.Bytes.{number_of}
use Rattle.grammar.specs.Slots.{slot_in}
use Rattle.grammar.proofs.Slots.{width_small}
use Rattle.rules.specs.File.{value}
use Rattle.rules.specs.Format.{field_at, inside}
use Rattle.rules.specs.declared.Field.{Field}
use Rattle.texts.specs.Numbers.{shown_in, least, most}
use Rattle.texts.specs.Places.{number_place}
use Rattle.texts.proofs.Outside.{inside_next, outside_here, due_few}
use Rattle.texts.proofs.refused.number_place.Goals as goal

pub number-x-requires : goal.number-x-requires
number-x-requires c =
    let d = c.args.d.now in
    let s = slot_in c.args.s in
    let i = c.loop-i.i in
    omega (arith, ap length c.take.ensures, length-take c.field_at-f.result.width c.loop-i.rest.now, min-le_left c.field_at-f.result.width (length c.loop-i.rest.now), ap (λ (f : Field). f.width) c.field_at-f.ensures, width_small d s i)

pub overflow_add-result : goal.overflow_add-result
overflow_add-result c = omega (arith, c.due_before.ensures, due_few c.args.d.now (slot_in c.args.s) c.loop-i.i 0)

pub returns-then-not-is_inside : goal.returns-then-not-is_inside
returns-then-not-is_inside c =
    let l = c.loop-i in
    let d = c.args.d.now in
    let s = slot_in c.args.s in
    let fe = c.field_at-f.ensures in
    let xe : c.number-x.result ≡ value (field_at d s l.i) l.rest.now = c.number-x.ensures ∙ ap number_of c.take.ensures ∙ ap (λ (f : Field). value f l.rest.now) fe in
    let v : to_z w128 (of_z w128 c.shown_in.result) ≡ shown_in c.field_at-f.result c.number-x.result = search rules in
    let lo : to_z w128 (of_z w128 c.shown_in-then-not-is_inside.result) ≡ least c.field_at-f.result = search rules in
    let hi : to_z w128 (of_z w128 c.shown_in-then-not-is_inside-2.result) ≡ most c.field_at-f.result = search rules in
    rw (c.due_before.ensures, v, lo, hi, xe, fe)
    (sym (l.invariant ∙ outside_here c.args.p d s c.args.s.places l.i l.rest.now (omega arith) (sym (c.if-not-is_inside.ensures ∙ ap₂ inside fe xe))))

pub loop-i-preserved : goal.loop-i-preserved
loop-i-preserved c =
    let l = c.loop-i in
    let d = c.args.d.now in
    let s = slot_in c.args.s in
    let fe = c.field_at-f.ensures in
    let xe : c.number-x.result ≡ value (field_at d s l.i) l.rest.now = c.number-x.ensures ∙ ap number_of c.take.ensures ∙ ap (λ (f : Field). value f l.rest.now) fe in
    l.invariant
    ∙ inside_next c.args.p d s c.args.s.places l.i l.rest.now (omega arith) (sym (c.if-not-is_inside.ensures ∙ ap₂ inside fe xe))
    ∙ sym (ap (number_place (c.args.s.places - (l.i + 1)) c.args.p d s (l.i + 1)) (c.drop-rest.ensures ∙ ap (λ (f : Field). drop f.width l.rest.now) fe))

pub returns : goal.returns
unfolding number_place
returns c =
    let l = c.loop-i in
    let none : c.args.s.places - l.i ≡ 0 = omega arith in
    sym (l.invariant ∙ ap (λ (m : ℕ). number_place m c.args.p c.args.d.now (slot_in c.args.s) l.i l.rest.now) none)
