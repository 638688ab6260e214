-- A permitted strategy that fits alone has no greater benefit than its entry in the table, so that candidates stand in for all that are
-- permitted.
use Prim.Native.Nat.{ℕ}
use mathlib.Core.Path.{◌≡◌, refl}
use mathlib.Core.Bool.{Bool, true, false}
use lib.IntN.{pos}
use lib.Signed.{◌≤ℤ◌, lt_z}
use native.Mathlib.Omega.{arith}
use Rattle.std.proofs.lemmas.Int.{ints}
use Rattle.rules.specs.District.{District}
use Rattle.rules.specs.Rating.{benefit, permitted, fits_alone, candidate}
use Rattle.rules.specs.Table.{has, candidate_benefit}

pub covers : (d : District) (i j : ℕ) → has d i j ≡ true → permitted d i j ≡ true → fits_alone d i j ≡ true → benefit d i j ≤ℤ pos (candidate_benefit d i j)
unfolding candidate_benefit candidate
covers d i j h p f = go (lt_z (pos 0) (benefit d i j)) refl
  where
    go : (x : Bool) → lt_z (pos 0) (benefit d i j) ≡ x → benefit d i j ≤ℤ pos (candidate_benefit d i j)
    go true e = rw (h, p, f, e) (omega (arith, ints))
    go false e = rw (h, p, f, e) (grind (arith, ints))
