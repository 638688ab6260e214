-- How large the numbers of a district in range can be. Of `gain` and of `effect` the rest of this crate knows only what stands here and in
-- their own functions.
use Prim.Native.Nat.{ℕ, zero, suc, ◌+◌, ◌-◌, ◌*◌, ◌≤◌}
use mathlib.Core.Path.{◌≡◌, refl}
use mathlib.Core.Bool.{Bool, true, false}
use native.Mathlib.Nat.{mul-le-mul}
use native.Mathlib.Omega.{arith}
use borrow.Author.Tests.{ltb-true}
use lib.Dec.{ltb}
use lib.IntN.{pos, nat_abs, neg_ℤ, ◌-ℤ◌}
use Rattle.base.specs.Bytes.{signed}
use Rattle.base.specs.Over.{sum_z}
use Rattle.base.proofs.Integers.{abs_add, abs_neg, abs_min, abs_max, abs_mul_le, abs_quot, pos_minus, sum_z_abs}
use Rattle.laws.proofs.Survival.{survival_le}
use Rattle.grammar.specs.Ranges.{Ranges}
use Rattle.rules.specs.District.{District, most_strategies, gains_at, value_at, strategy_place, segments_of, distresses_of, years_of, greatest_of, gain_of, pavement_of, rating_of}
use Rattle.rules.specs.Rating.{capped_gain, gain, survival, improvement, rating, both_ends, credit, credits, effect, area, benefit, usage, scaled_limit}
use Rattle.rating.specs.Numbers.{Segment, Pavement, Strategy, Distress, Resource}

-- a byte whose signed number is small
byte_small : (b : ℕ) → nat_abs (signed b) ≤ 50 → b ≤ 306
byte_small b h = go (ltb b 128) refl (ltb b 256) refl
  where
    go : (t : Bool) → ltb b 128 ≡ t → (u : Bool) → ltb b 256 ≡ u → b ≤ 306
    go true e u f = omega (arith, ltb-true b 128 e)
    go false e true f = omega (arith, ltb-true b 256 f)
    go false e false f = let z : nat_abs (pos b -ℤ pos 256) ≤ 50 = rw e at h in omega (arith, rw f at z)

pub both_ends_le : (d : District) (i j k t : ℕ) → both_ends d i j k t ≤ 2_000_000
unfolding both_ends
both_ends_le d i j k t = omega (arith, survival_le d i j k (t - 1), survival_le d i j k t)

module _ (d : District) (ok : Ranges d) where
  pub byte_le : (j k : ℕ) → Strategy j → Distress k → value_at d (strategy_place j + gains_at + (k - 1)) ≤ 306
  unfolding gain_of
  byte_le j k p q = byte_small _ (ok.gain j k p.0 p.1 q.0 q.1)

  pub pavement_in : (i : ℕ) → (1 ≤ i) × (i ≤ segments_of d) → Pavement (pavement_of d i)
  pavement_in i p = let n = ok.segments in (ok.some_type i p.0 p.1, ok.pavement i p.0 (omega arith))

  pub current_le : (i k : ℕ) → Segment i → Distress k → rating_of d i k ≤ 50
  current_le i k p s = omega (arith, ok.rating i k p.0 p.1 s.0 s.1, ok.greatest k s.0 s.1)

  gain_abs : (i j k : ℕ) → Segment i → Strategy j → Distress k → nat_abs (gain d i j k) ≤ 50
  unfolding gain capped_gain
  gain_abs i j k p q s =
      let g = ok.greatest k s.0 s.1 in
      let r = ok.rating i k p.0 p.1 s.0 s.1 in
      abs_max (neg_ℤ (pos (rating_of d i k))) (capped_gain d i j k) (rw (abs_neg (pos (rating_of d i k))) (current_le i k p s))
      (abs_min (gain_of d j k) (pos (greatest_of d k) -ℤ pos (rating_of d i k)) (ok.gain j k q.0 q.1 s.0 s.1)
      (rw (pos_minus (greatest_of d k) (rating_of d i k) r) (omega arith)))

  pub improvement_abs : (i j k t : ℕ) → Segment i → Strategy j → Distress k → nat_abs (improvement d i j k t) ≤ 50_000_000
  unfolding improvement
  improvement_abs i j k t p q s = abs_mul_le (gain d i j k) (pos (survival d i j k t)) (gain_abs i j k p q s) (survival_le d i j k t)

  pub rating_abs : (i j k t : ℕ) → Segment i → Strategy j → Distress k → nat_abs (rating d i j k t) ≤ 100_000_000
  unfolding rating
  rating_abs i j k t p q s =
      omega (arith, current_le i k p s, improvement_abs i j k t p q s, abs_add (pos (1_000_000 * rating_of d i k)) (improvement d i j k t))

  credit_abs : (i j k t : ℕ) → Segment i → Strategy j → Distress k → nat_abs (credit d i j k t) ≤ 100_000_000
  unfolding credit
  credit_abs i j k t p q s = abs_mul_le (gain d i j k) (pos (both_ends d i j k t)) (gain_abs i j k p q s) (both_ends_le d i j k t)

  pub credits_abs : (i j k : ℕ) → Segment i → Strategy j → Distress k → nat_abs (credits d i j k) ≤ 1_000_000_000
  unfolding credits
  credits_abs i j k p q s =
      let y = ok.years in
      omega (arith, sum_z_abs (years_of d) 100_000_000 (credit d i j k) (λ t l h. credit_abs i j k t p q s))

  effect_abs : (i j : ℕ) → Segment i → Strategy j → nat_abs (effect d i j) ≤ 450_000
  unfolding effect
  effect_abs i j p q =
      let n = ok.distresses in
      rw (abs_quot (sum_z (distresses_of d) (credits d i j)) 20_000)
      (omega (arith, sum_z_abs (distresses_of d) 1_000_000_000 (credits d i j) (λ k l h. credits_abs i j k p q (l, omega arith))))

  pub area_le : (i : ℕ) → Segment i → area d i ≤ 1_999_800
  unfolding area
  area_le i p = mul-le-mul {n₂ = 9_999} {m₂ = 200} (ok.mile_length i p.0 p.1) (ok.width i p.0 p.1)

  pub benefit_abs : (i j : ℕ) → Segment i → Strategy j → nat_abs (benefit d i j) ≤ 899_910_000_000
  unfolding benefit
  benefit_abs i zero p q = omega arith
  benefit_abs i (suc j) p q = abs_mul_le (pos (area d i)) (effect d i (suc j)) (area_le i p) (effect_abs i (suc j) p q)

  pub usage_le : (i j r : ℕ) → Segment i → j ≤ most_strategies → Resource r → usage d i j r ≤ 1_999_798_000_200
  unfolding usage
  usage_le i zero r p q s = omega arith
  usage_le i (suc j) r p q s = mul-le-mul {n₂ = 1_999_800} {m₂ = 999_999} (area_le i p) (ok.requirement (suc j) r (omega arith) q s.0 s.1)

  pub limit_le : (r : ℕ) → Resource r → scaled_limit d r ≤ 99_999_999_900_000
  unfolding scaled_limit
  limit_le r p = omega (arith, ok.limit r p.0 p.1)
