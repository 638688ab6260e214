-- Ratings stay on their scale: a gain takes no more than the current rating and adds no more than is left up to the greatest, and a survival is
-- at most the whole.
use Prim.Native.Nat.{ℕ, suc, ◌-◌, ◌*◌, ◌≤◌}
use native.Mathlib.Nat.{mul-le-mul}
use native.Mathlib.Omega.{arith}
use lib.IntN.{ℤ, pos, negsuc, neg_ℤ, ◌+ℤ◌, ◌-ℤ◌, ◌*ℤ◌}
use lib.Signed.{◌≤ℤ◌}
use Rattle.std.proofs.lemmas.Int.{ints}
use Rattle.base.proofs.Integers.{pos_minus, min_le, max_ge, max_le}
use Rattle.rules.specs.District.{District, segments_of, distresses_of, greatest_of, gain_of, rating_of}
use Rattle.rules.specs.Rating.{capped_gain, gain, survival, improvement, rating}
use Rattle.laws.proofs.Survival.{survival_le}
use Rattle.theorems.specs.Scale.{OnScale}

-- c points and what survives of a gain g, a part s of a million
above : (c s : ℕ) (g : ℤ) → neg_ℤ (pos c) ≤ℤ g → s ≤ 1_000_000 → pos 0 ≤ℤ (pos (1_000_000 * c) +ℤ g *ℤ pos s)
above c s (pos n) h p = omega (arith, ints)
above c s (negsuc n) h p =
    let l : suc n ≤ c = omega (arith, ints) in
    let q : suc n * s ≤ c * 1_000_000 = mul-le-mul l p in
    omega (arith, ints)

below : (c s b : ℕ) (g : ℤ) → c ≤ b → neg_ℤ (pos c) ≤ℤ g → g ≤ℤ pos (b - c) → s ≤ 1_000_000 → (pos (1_000_000 * c) +ℤ g *ℤ pos s) ≤ℤ pos (1_000_000 * b)
below c s b (pos n) h l u p =
    let m : n ≤ b - c = omega (arith, ints) in
    let q : n * s ≤ (b - c) * 1_000_000 = mul-le-mul m p in
    omega (arith, ints)
below c s b (negsuc n) h l u p = omega (arith, ints)

module _ (d : District) (i j k : ℕ) where
  gain_ge : neg_ℤ (pos (rating_of d i k)) ≤ℤ gain d i j k
  unfolding gain
  gain_ge = max_ge (neg_ℤ (pos (rating_of d i k))) (capped_gain d i j k)

  gain_le : rating_of d i k ≤ greatest_of d k → gain d i j k ≤ℤ pos (greatest_of d k - rating_of d i k)
  unfolding gain capped_gain
  gain_le h =
      max_le (neg_ℤ (pos (rating_of d i k))) (capped_gain d i j k) (pos (greatest_of d k - rating_of d i k)) (omega (arith, ints))
      (rw (← pos_minus (greatest_of d k) (rating_of d i k) h) (min_le (gain_of d j k) (pos (greatest_of d k) -ℤ pos (rating_of d i k))))

-- Of the file's ranges it takes one, that no current rating is above the greatest, and for the scale's upper end alone.
pub on_scale : (d : District) → ((i k : ℕ) → 1 ≤ i → i ≤ segments_of d → 1 ≤ k → k ≤ distresses_of d → rating_of d i k ≤ greatest_of d k) → OnScale d
unfolding rating improvement
on_scale d kept =
    record {
      least = λ i j k t. above (rating_of d i k) (survival d i j k t) (gain d i j k) (gain_ge d i j k) (survival_le d i j k t);
      most =
          λ i j k t a b e f.
          let h = kept i k a b e f in
          below (rating_of d i k) (survival d i j k t) (greatest_of d k) (gain d i j k) h (gain_ge d i j k) (gain_le d i j k h) (survival_le d i j k t);
    }
