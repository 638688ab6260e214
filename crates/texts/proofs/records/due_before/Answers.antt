-- `records::due_before` meets its contract: one for each number that the district has.
use Rattle.std.proofs.Common.{ℕ, suc, ◌+◌, ◌-◌, ◌<◌, ◌≡◌, refl, arith, rules}
use Rattle.base.specs.Choice.{pick}
use Rattle.base.proofs.Choice.{picks}
use Rattle.rules.specs.District.{District}
use Rattle.rules.specs.Format.{Slot}
use Rattle.grammar.specs.Slots.{slot_in}
use Rattle.texts.specs.Records.{is_due, due_in}
use Rattle.texts.proofs.Outside.{due_few}
use Rattle.texts.proofs.records.due_before.Goals as goal

-- one more is counted
due_next : (d : District) (s : Slot) (n i : ℕ) → i < n → due_in (n - i) d s i ≡ pick (is_due d s i) 1 0 + due_in (n - (i + 1)) d s (i + 1)
unfolding due_in
due_next d s n i h = let e : n - i ≡ suc (n - (i + 1)) = omega arith in rw e refl

pub loop-i-init : goal.loop-i-init
loop-i-init c = let e : c.args.n - 0 ≡ c.args.n = omega arith in rw e (omega arith)

pub overflow_add-due : goal.overflow_add-due
overflow_add-due c =
    let d = c.args.d.now in
    let s = slot_in c.args.s in
    let l = c.loop-i in
    let one : c.from-due.result ≡ pick (is_due d s l.i) 1 0 = search (rules, picks) in
    omega (arith, one, due_next d s c.args.n l.i c.loop-i-test.true, l.invariant, due_few d s c.args.n 0)

pub loop-i-preserved : goal.loop-i-preserved
loop-i-preserved c =
    let d = c.args.d.now in
    let s = slot_in c.args.s in
    let l = c.loop-i in
    let one : c.from-due.result ≡ pick (is_due d s l.i) 1 0 = search (rules, picks) in
    omega (arith, one, due_next d s c.args.n l.i c.loop-i-test.true, l.invariant)

pub returns : goal.returns
unfolding due_in
returns c = let e : c.args.n - c.loop-i.i ≡ 0 = omega arith in omega (arith, rw e at c.loop-i.invariant)
