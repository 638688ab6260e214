-- `ceiling::Search::margin` meets its contract.
use Prim.Native.Nat.{◌<◌}
use mathlib.Core.Path.{◌∙◌, ◌≡◌}
use native.Mathlib.Omega.{arith}
use lib.ListN.{get_or}
use Rattle.base.proofs.Sums.{most_none}
use Rattle.rules.specs.Ceiling.{margin}
use Rattle.ceiling.proofs.Costs.{inside, trial_of, costs_held, margin_takes, margin_passes}
use Rattle.ceiling.proofs.Search.margin.Goals as goal
use Rattle.ceiling.proofs.Search.margin.Goals.{then-best-benefit, else-best-benefit}

pub loop-j-init : goal.loop-j-init
loop-j-init c = most_none _

pub cost_at-cost-requires-clause-candidate : goal.cost_at-cost-requires-clause-candidate
cost_at-cost-requires-clause-candidate c =
    let some : 0 < get_or c.args.self.now.table.benefits.now c.entry-at.result 0 = omega arith in
    (inside c.requires.le_i.0 c.requires.le_i.1 (omega arith), rw c.entry-at.ensures at some)

pub cost_at-cost-requires-clause-present : goal.cost_at-cost-requires-clause-present
cost_at-cost-requires-clause-present c =
    let s = c.args.self.now in
    let some : 0 < get_or s.table.benefits.now c.entry-at.result 0 = omega arith in
    rw c.entry-at.ensures (costs_held s.standing.costs (inside c.requires.le_i.0 c.requires.le_i.1 (omega arith)) (rw c.entry-at.ensures at some) (omega arith))

pub loop-j-preserved : goal.loop-j-preserved
loop-j-preserved c =
    let s = c.args.self.now in
    let j = c.loop-j.j in
    let trial = trial_of s.table c.args.new s.fit c.requires.le_r in
    elim c.if-best-benefit.branch [
      | then-best-benefit w ↦
          w.best-is ∙ margin_takes trial c.args.i j c.loop-j.invariant w.cost_at-cost.ensures (rw c.entry-at.ensures at w.saturating_sub.ensures) w.max-best.ensures
      | else-best-benefit w ↦ w.best-is ∙ margin_passes trial c.args.i j c.loop-j.invariant (rw c.entry-at.ensures at w.if-best-benefit.false)
    ]

pub returns : goal.returns
unfolding margin
returns c =
    let e : c.loop-j.j ≡ c.args.self.now.table.size.strategies = omega arith in
    c.loop-j.invariant ∙ rw e
