-- Two districts that differ in limits and bars alone: ratings, benefits and uses are the same.
use Prim.Native.Nat.{ℕ, zero, suc, ◌+◌, ◌-◌, ◌*◌, ◌≤◌, ◌<◌}
use mathlib.Core.Path.{◌≡◌, refl, ap, ap₂, ◌∙◌}
use native.Mathlib.Omega.{arith}
use lib.IntN.{ℤ, pos}
use lib.Seq.{get_or-set_other}
use lib.Signed.{quot_z}
use Rattle.base.specs.Over.{sum_z, all}
use Rattle.base.specs.Bytes.{signed}
use Rattle.base.proofs.All.{all_cong}
use Rattle.rules.specs.District.{District, most_strategies, most_years, most_distresses, most_pavements, most_resources, count_places, greatest_at, greatest_place, strategy_place, gains_at, percents_at, pavement_place, minima_at, segments_at, per_segment, segment_place, traffic_at, environment_at, length_at, width_at, bars_at, ratings_at, leader_at, bars_place, rating_place, leader_place, limit_place, value_at, segments_of, years_of, distresses_of, greatest_of, requirement_of, gain_of, percent_of, overall_of, minimum_of, pavement_of, traffic_of, environment_of, length_of, width_of, rating_of, leader_of, with_limit, with_bars}
use Rattle.laws.specs.Counts.{Few}
use Rattle.theorems.proofs.SignedSums.{sum_z_cong}
use Rattle.rules.specs.Rating.{capped_gain, gain, survival, improvement, rating, both_ends, credit, credits, effect, area, benefit, usage, reaches, minimum_reached, years_reached, minima_reached, first_rating, overall_reached}

pub record Alike (d e : District) : Type 0 where
  pub counts : (n : ℕ) → n < count_places → value_at e n ≡ value_at d n
  pub tables : (place : ℕ) → greatest_at ≤ place → place < segments_at → value_at e place ≡ value_at d place
  pub segments : (i n place : ℕ) → segment_place i + n ≡ place → n < per_segment → ¬ (n ≡ bars_at) → value_at e place ≡ value_at d place

-- ---- such districts come about by new limits and bars

pub alike_self : (d : District) → Alike d d
alike_self d = record { counts = λ n h. refl; tables = λ place l h. refl; segments = λ i n place e h ne. refl }

module _ (d e : District) (alike : Alike d e) where
  pub limit_alike : (r limit : ℕ) → r ≤ most_resources → Alike d (with_limit e r limit)
  limit_alike r limit h =
      record {
        counts = λ n l. get_or-set_other e (limit_place r) n limit 0 (λ z. omega arith) ∙ alike.counts n l;
        tables = λ place l k. get_or-set_other e (limit_place r) place limit 0 (λ z. omega arith) ∙ alike.tables place l k;
        segments = λ i n place q l ne. get_or-set_other e (limit_place r) place limit 0 (λ z. omega arith) ∙ alike.segments i n place q l ne;
      }

  pub bars_alike : (i mask : ℕ) → Alike d (with_bars e i mask)
  bars_alike i mask =
      record {
        counts = λ n l. get_or-set_other e (bars_place i) n mask 0 (λ z. omega arith) ∙ alike.counts n l;
        tables = λ place l k. get_or-set_other e (bars_place i) place mask 0 (λ z. omega arith) ∙ alike.tables place l k;
        segments = λ k n place q l ne. get_or-set_other e (bars_place i) place mask 0 (λ z. ne (omega arith)) ∙ alike.segments k n place q l ne;
      }

-- ---- what is the same in both

module _ (d e : District) (alike : Alike d e) where
  -- ---- values

  pub leader_same : (i : ℕ) → leader_of e i ≡ leader_of d i
  unfolding leader_of
  leader_same i = alike.segments i leader_at (leader_place i) refl (omega arith) (λ z. omega arith)

  traffic_same : (i : ℕ) → traffic_of e i ≡ traffic_of d i
  unfolding traffic_of
  traffic_same i = alike.segments i traffic_at (segment_place i + traffic_at) refl (omega arith) (λ z. omega arith)

  environment_same : (i : ℕ) → environment_of e i ≡ environment_of d i
  unfolding environment_of
  environment_same i = alike.segments i environment_at (segment_place i + environment_at) refl (omega arith) (λ z. omega arith)

  pavement_same : (i : ℕ) → pavement_of e i ≡ pavement_of d i
  unfolding pavement_of
  pavement_same i = alike.segments i 0 (segment_place i) (omega arith) (omega arith) (λ z. omega arith)

  area_same : (i : ℕ) → area e i ≡ area d i
  unfolding area length_of width_of
  area_same i =
      rw (
        alike.segments i length_at (segment_place i + length_at) refl (omega arith) (λ z. omega arith),
        alike.segments i width_at (segment_place i + width_at) refl (omega arith) (λ z. omega arith),
      )

  rating_now : (i k : ℕ) → k ≤ most_distresses → rating_of e i k ≡ rating_of d i k
  unfolding rating_of
  rating_now i k h = alike.segments i (ratings_at + (k - 1)) (rating_place i k) (omega arith) (omega arith) (λ z. omega arith)

  greatest_same : (k : ℕ) → k ≤ most_distresses → greatest_of e k ≡ greatest_of d k
  unfolding greatest_of
  greatest_same k h = alike.tables (greatest_place k) (omega arith) (omega arith)

  gain_of_same : (j k : ℕ) → j ≤ most_strategies → k ≤ most_distresses → gain_of e j k ≡ gain_of d j k
  unfolding gain_of
  gain_of_same j k hj hk = ap signed (alike.tables (strategy_place j + gains_at + (k - 1)) (omega arith) (omega arith))

  percent_same : (j k t : ℕ) → j ≤ most_strategies → k ≤ most_distresses → t ≤ most_years → percent_of e j k t ≡ percent_of d j k t
  unfolding percent_of
  percent_same j k t hj hk ht = alike.tables (strategy_place j + percents_at + most_years * (k - 1) + (t - 1)) (omega arith) (omega arith)

  overall_same : (y : ℕ) → y ≤ most_pavements → overall_of e y ≡ overall_of d y
  unfolding overall_of
  overall_same y h = alike.tables (pavement_place y) (omega arith) (omega arith)

  minimum_same : (y k t : ℕ) → y ≤ most_pavements → k ≤ most_distresses → t ≤ most_years → minimum_of e y k t ≡ minimum_of d y k t
  unfolding minimum_of
  minimum_same y k t hy hk ht = alike.tables (pavement_place y + minima_at + most_years * (k - 1) + (t - 1)) (omega arith) (omega arith)

  pub usage_same : (i j r : ℕ) → j ≤ most_strategies → r ≤ most_resources → usage e i j r ≡ usage d i j r
  unfolding usage requirement_of
  usage_same i zero r hj hr = refl
  usage_same i (suc j) r hj hr = rw (area_same i, alike.tables (strategy_place (suc j) + (r - 1)) (omega arith) (omega arith))

  -- ---- ratings

  module _ (i j : ℕ) (hj : j ≤ most_strategies) where
    gain_same : (k : ℕ) → k ≤ most_distresses → gain e i j k ≡ gain d i j k
    unfolding gain capped_gain
    gain_same k hk = rw (rating_now i k hk, greatest_same k hk, gain_of_same j k hj hk)

    survival_same : (k t : ℕ) → k ≤ most_distresses → t ≤ most_years → survival e i j k t ≡ survival d i j k t
    unfolding survival
    survival_same k zero hk ht = refl
    survival_same k (suc t) hk ht = rw (traffic_same i, environment_same i, percent_same j k (suc t) hj hk ht)

    rating_same : (k t : ℕ) → k ≤ most_distresses → t ≤ most_years → rating e i j k t ≡ rating d i j k t
    unfolding rating improvement
    rating_same k t hk ht = rw (rating_now i k hk, gain_same k hk, survival_same k t hk ht)

    credit_same : (k t : ℕ) → k ≤ most_distresses → t ≤ most_years → credit e i j k t ≡ credit d i j k t
    unfolding credit both_ends
    credit_same k t hk ht = rw (gain_same k hk, survival_same k (t - 1) hk (omega arith), survival_same k t hk ht)

    module _ (few : Few d) where
      credits_same : (k : ℕ) → k ≤ most_distresses → credits e i j k ≡ credits d i j k
      unfolding credits
      credits_same k hk =
          ap (λ (n : ℕ). sum_z n (credit e i j k)) (alike.counts 2 (omega arith))
          ∙ sum_z_cong (years_of d) (credit e i j k) (credit d i j k) (λ t lt ht. credit_same k t hk (omega (arith, few.years)))

      effect_same : effect e i j ≡ effect d i j
      unfolding effect
      effect_same =
          ap (λ (z : ℤ). quot_z z (pos 20_000))
          (ap (λ (n : ℕ). sum_z n (credits e i j)) (alike.counts 3 (omega arith))
          ∙ sum_z_cong (distresses_of d) (credits e i j) (credits d i j) (λ k lk hk. credits_same k (omega (arith, few.distresses))))

      -- ---- what a strategy has to reach

      module _ (low : 1 ≤ i) (high : i ≤ segments_of d) where
        minimum_reached_same : (k t : ℕ) → k ≤ most_distresses → t ≤ most_years → minimum_reached e i j k t ≡ minimum_reached d i j k t
        unfolding minimum_reached
        minimum_reached_same k t hk ht = rw (rating_same k t hk ht, pavement_same i, minimum_same (pavement_of d i) k t (few.pavement i low high) hk ht)

        pub minima_same : minima_reached e i j ≡ minima_reached d i j
        unfolding minima_reached years_reached
        minima_same =
            ap (λ (n : ℕ). all n (years_reached e i j)) (alike.counts 3 (omega arith))
            ∙ all_cong (distresses_of d) (years_reached e i j) (years_reached d i j)
            (λ k lk hk.
            ap (λ (n : ℕ). all n (minimum_reached e i j k)) (alike.counts 2 (omega arith))
            ∙ all_cong (years_of d) (minimum_reached e i j k) (minimum_reached d i j k)
            (λ t lt ht. minimum_reached_same k t (omega (arith, few.distresses)) (omega (arith, few.years))))

        pub overall_reached_same : overall_reached e i j ≡ overall_reached d i j
        unfolding overall_reached first_rating
        overall_reached_same =
            ap₂ reaches
            (ap (λ (n : ℕ). sum_z n (first_rating e i j)) (alike.counts 3 (omega arith))
            ∙ sum_z_cong (distresses_of d) (first_rating e i j) (first_rating d i j) (λ k lk hk. rating_same k 1 (omega (arith, few.distresses)) (omega arith)))
            (rw (pavement_same i) (overall_same (pavement_of d i) (few.pavement i low high)))

  pub benefit_same : (i j : ℕ) → j ≤ most_strategies → Few d → benefit e i j ≡ benefit d i j
  unfolding benefit
  benefit_same i zero hj few = refl
  benefit_same i (suc j) hj few = rw (area_same i, effect_same i (suc j) hj few)
