-- What the laws of a district's numbers assume of its counts.
use Rattle.std.specs.Prelude.{ℕ, ◌≤◌, ◌≡◌, length}
use Rattle.rules.specs.District.{District, most_segments, most_strategies, most_years, most_distresses, most_pavements, most_resources, district_places, segments_of, strategies_of, years_of, distresses_of, resources_of, pavement_of}

-- they, and the pavement types, are in the file's ranges
pub record Few (d : District) : Type 0 where
  pub places : length d ≡ district_places
  pub segments : segments_of d ≤ most_segments
  pub strategies : strategies_of d ≤ most_strategies
  pub years : years_of d ≤ most_years
  pub distresses : distresses_of d ≤ most_distresses
  pub resources : resources_of d ≤ most_resources
  pub pavement : (i : ℕ) → 1 ≤ i → i ≤ segments_of d → pavement_of d i ≤ most_pavements
