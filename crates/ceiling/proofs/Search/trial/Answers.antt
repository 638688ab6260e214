-- `ceiling::Search::trial` meets its contract.
use Prim.Native.Nat.{◌+◌}
use native.Mathlib.Omega.{arith}
use Rattle.ceiling.specs.Views.{repriced}
use Rattle.ceiling.proofs.Costs.{trial_of, whole_fits, summed_none, summed_next, summed_early, summed_all, margin_small, ceiling_small}
use Rattle.ceiling.proofs.Search.trial.Goals as goal

pub moved-total-requires : goal.moved-total-requires
moved-total-requires c =
    let trial = trial_of c.args.self.now.table c.args.new c.args.self.now.fit c.requires in
    whole_fits trial c.whole.ensures

pub loop-i-init : goal.loop-i-init
loop-i-init c =
    let trial = trial_of c.args.self.now.table c.args.new c.args.self.now.fit c.requires in
    summed_none trial c.whole.ensures c.moved-total.ensures

pub returns-then-self-total : goal.returns-then-self-total
returns-then-self-total c =
    let trial = trial_of c.args.self.now.table c.args.new c.args.self.now.fit c.requires in
    summed_early trial c.loop-i.i c.loop-i.invariant (omega arith) c.if-self-total.true

pub overflow_add-total : goal.overflow_add-total
overflow_add-total c =
    let s = c.args.self.now in
    omega (arith, c.margin-total.ensures, s.standing.value, ceiling_small s.table.sized s.fit, margin_small s.table.sized (repriced s.prices c.args.new) (c.loop-i.i + 1))

pub loop-i-preserved : goal.loop-i-preserved
loop-i-preserved c =
    let trial = trial_of c.args.self.now.table c.args.new c.args.self.now.fit c.requires in
    summed_next trial c.loop-i.i c.loop-i.invariant c.margin-total.ensures

pub returns : goal.returns
returns c =
    let trial = trial_of c.args.self.now.table c.args.new c.args.self.now.fit c.requires in
    rw (← summed_all trial c.loop-i.i c.loop-i.invariant (omega arith)) c.min.ensures
