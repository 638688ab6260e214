-- `planner::join_all` meets its contract: the programmes of the blocks passed are joined, and their steps are summed.
use mathlib.Core.Path.{◌∙◌}
use native.Mathlib.Omega.{arith}
use Rattle.base.proofs.Sums.{sum_none, sum_next}
use Rattle.planner.proofs.BlockPlans.{joined_none, joined_more, all_joined, steps_fit}
use Rattle.planner.proofs.join_all.Goals as goal

pub loop-b-init : goal.loop-b-init
loop-b-init c = (joined_none _ _, sum_none _)

pub join-requires-clause-fits : goal.join-requires-clause-fits
join-requires-clause-fits c =
    let l = c.loop-b in
    let blocks = c.args.blocks.now in
    rw (l.invariant.1, c.programme_of_block-next.ensures.steps)
    (steps_fit _ _ blocks.ranged.in_range blocks.followed l.b (omega (arith, c.count-b-end.ensures.value, c.loop-b-test.true)))

pub loop-b-preserved : goal.loop-b-preserved
loop-b-preserved c =
    let l = c.loop-b in
    let next = c.programme_of_block-next.ensures in (
      joined_more _ _ l.b l.invariant.0 c.end.ensures.value next.strategies c.join.ensures.strategies,
      c.join.ensures.steps ∙ rw next.steps (sum_next l.b _ l.invariant.1),
    )

pub returns : goal.returns
returns c = let l = c.loop-b in all_joined _ _ l.b (omega (arith, c.count-b-end.ensures.value)) l.invariant.0 l.invariant.1
