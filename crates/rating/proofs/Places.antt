-- What is read at a record's place is what the rules name.
use Prim.Native.Nat.{ℕ, ◌+◌, ◌-◌, ◌*◌}
use mathlib.Core.Path.{◌≡◌, ap, ◌∙◌}
use native.Mathlib.Omega.{arith}
use Rattle.rules.specs.District.{District, most_years, gains_at, percents_at, minima_at, ratings_at, value_at, strategy_place, pavement_place, segment_place, percent_of, overall_of, minimum_of, pavement_of, rating_of}

module _ (d : District) {v : ℕ} where
  pub gain_is : (j k : ℕ) → v ≡ value_at d (strategy_place j + (gains_at + (k - 1))) → v ≡ value_at d (strategy_place j + gains_at + (k - 1))
  gain_is j k e = e ∙ ap (value_at d) (omega arith)

  pub overall_is : (y : ℕ) → v ≡ value_at d (pavement_place y + 0) → v ≡ overall_of d y
  unfolding overall_of
  overall_is y e = e ∙ ap (value_at d) (omega arith)

  pub pavement_is : (i : ℕ) → v ≡ value_at d (segment_place i + 0) → v ≡ pavement_of d i
  unfolding pavement_of
  pavement_is i e = e ∙ ap (value_at d) (omega arith)

  pub rating_is : (i k : ℕ) → v ≡ value_at d (segment_place i + (ratings_at + (k - 1))) → v ≡ rating_of d i k
  unfolding rating_of
  rating_is i k e = e ∙ ap (value_at d) (omega arith)

  -- in a row for distress k with a place for each year
  module _ (k t : ℕ) {row : ℕ} (at : row ≡ most_years * (k - 1) + (t - 1)) where
    pub percent_is : (j : ℕ) → v ≡ value_at d (strategy_place j + (percents_at + row)) → v ≡ percent_of d j k t
    unfolding percent_of
    percent_is j e = e ∙ ap (value_at d) (omega arith)

    pub minimum_is : (y : ℕ) → v ≡ value_at d (pavement_place y + (minima_at + row)) → v ≡ minimum_of d y k t
    unfolding minimum_of
    minimum_is y e = e ∙ ap (value_at d) (omega arith)
