-- `phase1::reduce` meets its contract: the steps made and those from here on are all of them.
use mathlib.Core.Path.{◌≡◌, refl, ◌∙◌}
use Rattle.std.specs.Prelude.{None}
use native.Mathlib.Omega.{arith}
use Rattle.rules.specs.Phases.{step}
use Rattle.tables.specs.Views.{table_in, leaders_in}
use Rattle.phase1.specs.Reduce.{IsStep}
use Rattle.phase1.specs.Views.{HeldIn}
use Rattle.phase1.proofs.Pulls.{measured_summable}
use Rattle.phase1.proofs.Reduction.{held_measured, down_start, down_end, down_next}
use Rattle.phase1.proofs.reduce.Goals as goal

pub sums_of-sums-requires : goal.sums_of-sums-requires
sums_of-sums-requires c = let r = c.args.planning.now.running in measured_summable (held_measured r.bounded r.chosen c.requires)

pub loop-i-init : goal.loop-i-init
loop-i-init c = (refl, refl, down_start _ c.requires, c.sums_of-sums.ensures)

pub invariant_of-to_step : goal.invariant_of-to_step
invariant_of-to_step c =
    let l = c.loop-i in
    let held : HeldIn l.planning.t l.summed.shares.now l.planning.draft.choice = rw (l.invariant.0, l.invariant.1) l.invariant.2.held in
    let running = l.planning.running in
    record { shares_are = held.shares; measured = held_measured running.bounded running.chosen held; sums_are = rw (l.invariant.0, l.invariant.1) l.invariant.3 }

pub step-requires-clause-leaders : goal.step-requires-clause-leaders
step-requires-clause-leaders c = rw c.loop-i.invariant.0 c.last_led-led.ensures

pub step-requires-clause-held : goal.step-requires-clause-held
step-requires-clause-held c = let inv = c.loop-i.invariant in rw (inv.0, inv.1) inv.2.held

pub step-requires-clause-sums : goal.step-requires-clause-sums
step-requires-clause-sums c = let inv = c.loop-i.invariant in rw (inv.0, inv.1) inv.3

pub loop-i-smaller : goal.loop-i-smaller
loop-i-smaller c =
    let l = c.loop-i in
    let found : IsStep (table_in l.planning.t) l.planning.draft.choice c.in-Some.i = c.in-Some.ensures in
    omega (arith, (down_next l.invariant.2 (rw l.invariant.0 at found) (rw l.invariant.0 at c.step.ensures.stepped)).0)

pub loop-i-preserved : goal.loop-i-preserved
loop-i-preserved c =
    let l = c.loop-i in
    let found : IsStep (table_in l.planning.t) l.planning.draft.choice c.in-Some.i = c.in-Some.ensures in (
      c.step.ensures.same_table ∙ l.invariant.0,
      c.step.ensures.same_shares ∙ l.invariant.1,
      (down_next l.invariant.2 (rw l.invariant.0 at found) (rw l.invariant.0 at c.step.ensures.stepped)).1,
      rw (l.invariant.0, l.invariant.1) at c.step.ensures.sums,
    )

pub returns-clause-choice_after : goal.returns-clause-choice_after
returns-clause-choice_after c =
    let l = c.loop-i in
    let none : step (table_in l.planning.t) (leaders_in l.planning.t) l.planning.draft.choice ≡ None = c.in_default.ensures in
    (down_end l.invariant.2 (rw l.invariant.0 at none)).0

pub returns-clause-value : goal.returns-clause-value
returns-clause-value c =
    let l = c.loop-i in
    let none : step (table_in l.planning.t) (leaders_in l.planning.t) l.planning.draft.choice ≡ None = c.in_default.ensures in
    (down_end l.invariant.2 (rw l.invariant.0 at none)).1
