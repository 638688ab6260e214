use mathlib.Core.Path.{◌≡◌}
use Prim.Native.Nat.{◌-◌}
use Rattle.base.specs.Over.{sum}
use Rattle.rules.specs.Rating.{survival, both_ends}
use Rattle.rating.proofs.Treatment.survivals.Given as goal

abbrev pub invariant-loop-t : goal.invariant-loop-t
invariant-loop-t l =
    let s = l.self in
    (l.total ≡ sum (l.t - 1) (both_ends s.ranged.district.now s.segment s.strategy l.k)) × (l.start ≡ survival s.ranged.district.now s.segment s.strategy l.k (l.t - 1))
