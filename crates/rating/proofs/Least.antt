-- The least and the greatest of two signed numbers: the rules' words and the library's say the same. The rules keep theirs, by the same choice
-- as the rest of the rules: the library's are choices by the turned test, for two lines of proof here.
use mathlib.Core.Path.{◌≡◌}
use native.Mathlib.Omega.{arith}
use lib.IntN.{ℤ}
use Rattle.std.specs.Int.{int_min, int_max}
use Rattle.std.proofs.lemmas.Int.{ints}
use Rattle.base.specs.Over.{min_z, max_z}

pub least : (x y : ℤ) → int_min x y ≡ min_z x y
unfolding min_z
least x y = grind (arith, ints)

pub greatest : (x y : ℤ) → int_max x y ≡ max_z x y
unfolding max_z
greatest x y = grind (arith, ints)
