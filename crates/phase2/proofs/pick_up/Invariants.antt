use Prim.Native.Nat.{◌-◌}
use mathlib.Core.Path.{◌≡◌}
use Rattle.phase2.proofs.Offers.{Picking}
use Rattle.phase2.proofs.pick_up.Given as goal

abbrev pub invariant-loop-offer : goal.invariant-loop-offer
invariant-loop-offer l =
    (l.planning.t ≡ l.initial.planning.t) × Picking l.initial.planning.t l.initial.planning.draft.choice l.planning.draft.choice l.picks

abbrev pub decreases-loop-offer : goal.decreases-loop-offer
decreases-loop-offer l = l.initial.planning.t.size.segments - l.picks
