-- A survival is at most the whole.
use Prim.Native.Nat.{ℕ, zero, suc, ◌≤◌}
use native.Mathlib.Omega.{arith}
use Rattle.rules.specs.District.{District}
use Rattle.rules.specs.Rating.{survival}

pub survival_le : (d : District) (i j k t : ℕ) → survival d i j k t ≤ 1_000_000
unfolding survival
survival_le d i j k zero = omega arith
survival_le d i j k (suc t) = omega arith
