-- `phase1::step` meets its contract.
use mathlib.Core.Path.{◌≡◌}
use mathlib.Core.List.{[]}
use Rattle.std.specs.Prelude.{Some}
use Rattle.rules.specs.Phases.{step_down}
use native.Mathlib.Omega.{arith}
use Rattle.phase1.proofs.Candidates.{next_le}
use Rattle.phase1.proofs.Pulls.{uses_summable, uses_running, measured_summable, share_moves, shares_moved}
use Rattle.phase1.proofs.Reduction.{held_measured, next_measured, pruned_measured, steps_down}
use Rattle.tables.specs.Views.{table_in, leaders_in}
use Rattle.phase1.specs.Reduce.{Measured}
use Rattle.phase1.proofs.step.Goals as goal
use Rattle.phase1.proofs.step.Goals.{After-prune}

-- the shares of the programme that the pruning leaves, and that it is the step's
after : (c : After-prune) → Measured c.args.planning.now.t.size c.args.summed.now.shares.now c.prune.new.choice
after c =
    let p = c.requires in
    let r = c.args.planning.now.running in
    pruned_measured r.bounded r.chosen p.held _ p.le_i.0 p.le_i.1 (c.next_candidate.ensures _ _) p.leaders c.give.ensures.choice_after c.prune.ensures.choice_after

down : (c : After-prune) → step_down (table_in c.args.planning.now.t) (leaders_in c.args.planning.now.t) c.args.planning.now.draft.choice c.args.i ≡ Some c.prune.new.choice
down c =
    let p = c.requires in
    let r = c.args.planning.now.running in
    steps_down r.bounded r.chosen p.held _ p.le_i.0 p.le_i.1 (c.next_candidate.ensures _ _) p.leaders c.give.ensures.choice_after c.prune.ensures.choice_after

pub give-requires : goal.give-requires
give-requires c = let p = c.requires in (p.le_i.0, p.le_i.1, next_le _ _ [] [] _ _ (c.next_candidate.ensures [] []))

pub sums_of-planning-requires : goal.sums_of-planning-requires
sums_of-planning-requires c =
    let r = c.args.planning.now.running in
    let now = after (goal.at.sums_of-planning-requires c).After-prune in
    uses_summable now.bounded r.uses now.chosen

pub invariant_of-planning : goal.invariant_of-planning
invariant_of-planning c =
    let r = c.args.planning.now.running in
    let now = after (goal.at.invariant_of-planning c).After-prune in
    record { running = rw c.give.ensures.same_table (uses_running now.bounded r.uses now.chosen (omega arith) c.sums_of-planning.ensures) }

pub sums_of-summed-requires : goal.sums_of-summed-requires
sums_of-summed-requires c = measured_summable (after (goal.at.sums_of-summed-requires c).After-prune)

pub give-requires-else-prune-clause-moves : goal.give-requires-else-prune-clause-moves
give-requires-else-prune-clause-moves c =
    let p = c.requires in
    let r = c.args.planning.now.running in
    share_moves (held_measured r.bounded r.chosen p.held) p.sums _ _ p.le_i.0 p.le_i.1 (next_measured r.bounded r.chosen p.held _ p.le_i.0 p.le_i.1 (c.next_candidate.ensures _ _))

pub returns-then-prune-clause-stepped : goal.returns-then-prune-clause-stepped
returns-then-prune-clause-stepped c = down (goal.at.returns-then-prune-clause-stepped c).After-prune

pub returns-else-prune-clause-stepped : goal.returns-else-prune-clause-stepped
returns-else-prune-clause-stepped c = down (goal.at.returns-else-prune-clause-stepped c).After-prune

pub returns-else-prune-clause-sums : goal.returns-else-prune-clause-sums
returns-else-prune-clause-sums c =
    let p = c.requires in
    let r = c.args.planning.now.running in
    let kept = c.prune.ensures.choice_unchanged c.if-prune.false in
    rw (kept, c.give.ensures.choice_after) (shares_moved (held_measured r.bounded r.chosen p.held) p.sums _ _ p.le_i.0 p.le_i.1 c.give-else-prune.ensures.sums)
