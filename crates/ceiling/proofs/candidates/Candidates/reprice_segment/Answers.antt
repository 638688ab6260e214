-- `ceiling::Candidates::reprice_segment` meets its contract.
use Prim.Native.Nat.{◌≤◌, ◌+◌}
use native.Mathlib.Omega.{arith}
use Rattle.ceiling.specs.Prices.{In}
use Rattle.ceiling.proofs.Costs.{inside, costs_held, costs_set, costs_skip}
use Rattle.rules.specs.District.{most_strategies}
use Rattle.ceiling.proofs.candidates.Candidates.reprice_segment.Goals as goal
use Rattle.ceiling.proofs.candidates.Candidates.reprice_segment.Goals.{then-self-at-gt0, else-self-at-gt0}

pub cost_at-requires-clause-prices : goal.cost_at-requires-clause-prices
cost_at-requires-clause-prices c = c.requires.prices

pub cost_at-requires-clause-candidate : goal.cost_at-requires-clause-candidate
cost_at-requires-clause-candidate c =
    (inside c.requires.le_i.0 c.requires.le_i.1 (omega arith), rw c.entry-at.ensures at c.if-self-at-gt0.true)

pub cost_at-requires-clause-present : goal.cost_at-requires-clause-present
cost_at-requires-clause-present c =
    rw c.entry-at.ensures (costs_held c.loop-j.invariant (inside c.requires.le_i.0 c.requires.le_i.1 (omega arith)) (rw c.entry-at.ensures at c.if-self-at-gt0.true) (omega arith))

pub loop-j-preserved : goal.loop-j-preserved
loop-j-preserved c =
    let t = c.args.self in
    let at : In t.size c.args.i (c.loop-j.j + 1) = inside c.requires.le_i.0 c.requires.le_i.1 (omega arith) in
    let few : t.size.strategies ≤ most_strategies = t.sized.strategies in
    elim c.if-self-at-gt0.branch [
      | then-self-at-gt0 w ↦ rw (w.costs-is, c.entry-at.ensures) (costs_set at few c.loop-j.invariant (omega (arith, t.sized.segments)) w.cost_at.ensures)
      | else-self-at-gt0 w ↦ rw w.costs-is (costs_skip at few c.loop-j.invariant (rw c.entry-at.ensures at w.if-self-at-gt0.false))
    ]
