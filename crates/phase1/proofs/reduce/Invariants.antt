use Prim.Native.Nat.{◌-◌}
use mathlib.Core.Path.{◌≡◌}
use Rattle.phase1.specs.Reduce.{ShareSums}
use Rattle.phase1.proofs.Reduction.{Down, most_steps}
use Rattle.phase1.proofs.reduce.Given as goal

abbrev pub invariant-loop-i : goal.invariant-loop-i
invariant-loop-i l =
    (l.planning.t ≡ l.initial.planning.t) × (l.summed.shares ≡ l.initial.summed.shares)
    × Down l.initial.planning.t l.initial.summed.shares.now l.initial.planning.draft.choice l.planning.draft.choice l.steps
    × ShareSums l.initial.planning.t.size l.initial.summed.shares.now l.planning.draft.choice l.summed.sums

abbrev pub decreases-loop-i : goal.decreases-loop-i
decreases-loop-i l = most_steps l.initial.planning.t - l.steps
