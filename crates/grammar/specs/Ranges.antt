-- What the file's ranges say of the numbers that the arithmetic reads: one fact for each. A place that the district does not have holds 0, so
-- that most facts hold of every place of its kind.
use Rattle.std.specs.Prelude.{ℕ, ◌≤◌, ◌<◌, ◌^◌, ◌≡◌, nat_abs, length}
use Rattle.rules.specs.District.{District, most_segments, most_strategies, most_years, most_distresses, most_pavements, most_resources, district_places, segments_of, strategies_of, years_of, distresses_of, pavements_of, resources_of, limit_of, greatest_of, requirement_of, gain_of, percent_of, overall_of, minimum_of, pavement_of, traffic_of, environment_of, length_of, width_of, bars_of, rating_of, leader_of}

pub record Ranges (d : District) : Type 0 where
  pub places : length d ≡ district_places
  pub segments : segments_of d ≤ most_segments
  pub some_strategy : 1 ≤ strategies_of d
  pub strategies : strategies_of d ≤ most_strategies
  pub some_year : 1 ≤ years_of d
  pub years : years_of d ≤ most_years
  pub some_distress : 1 ≤ distresses_of d
  pub distresses : distresses_of d ≤ most_distresses
  pub some_pavement : 1 ≤ pavements_of d
  pub pavements : pavements_of d ≤ most_pavements
  pub some_resource : 1 ≤ resources_of d
  pub resources : resources_of d ≤ most_resources
  pub limit : (r : ℕ) → 1 ≤ r → r ≤ most_resources → limit_of d r ≤ 999_999_999
  pub greatest : (k : ℕ) → 1 ≤ k → k ≤ most_distresses → greatest_of d k ≤ 50
  pub requirement : (j r : ℕ) → 1 ≤ j → j ≤ most_strategies → 1 ≤ r → r ≤ most_resources → requirement_of d j r ≤ 999_999
  pub gain : (j k : ℕ) → 1 ≤ j → j ≤ most_strategies → 1 ≤ k → k ≤ most_distresses → nat_abs (gain_of d j k) ≤ 50
  pub percent : (j k t : ℕ) → 1 ≤ j → j ≤ most_strategies → 1 ≤ k → k ≤ most_distresses → 1 ≤ t → t ≤ most_years → percent_of d j k t ≤ 100
  pub overall : (y : ℕ) → 1 ≤ y → y ≤ most_pavements → overall_of d y ≤ 450
  pub minimum : (y k t : ℕ) → 1 ≤ y → y ≤ most_pavements → 1 ≤ k → k ≤ most_distresses → 1 ≤ t → t ≤ most_years → minimum_of d y k t ≤ 50
  pub some_type : (i : ℕ) → 1 ≤ i → i ≤ segments_of d → 1 ≤ pavement_of d i
  pub pavement : (i : ℕ) → 1 ≤ i → i ≤ most_segments → pavement_of d i ≤ most_pavements
  pub traffic : (i : ℕ) → 1 ≤ i → i ≤ most_segments → traffic_of d i ≤ 1_000
  pub environment : (i : ℕ) → 1 ≤ i → i ≤ most_segments → environment_of d i ≤ 1_000
  pub mile_length : (i : ℕ) → 1 ≤ i → i ≤ most_segments → length_of d i ≤ 9_999
  pub width : (i : ℕ) → 1 ≤ i → i ≤ most_segments → width_of d i ≤ 200
  pub bars : (i : ℕ) → 1 ≤ i → i ≤ most_segments → bars_of d i < 2 ^ 16
  pub rating : (i k : ℕ) → 1 ≤ i → i ≤ most_segments → 1 ≤ k → k ≤ most_distresses → rating_of d i k ≤ greatest_of d k
  pub leader : (i : ℕ) → 1 ≤ i → i ≤ most_segments → leader_of d i < i
