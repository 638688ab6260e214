-- The numbers that a function may be handed.
use Rattle.std.specs.Prelude.{ℕ, ◌≤◌}
use Rattle.rules.specs.District.{most_segments, most_strategies, most_years, most_distresses, most_pavements, most_resources}

abbrev pub Segment : ℕ → Type 0
Segment i = (1 ≤ i) × (i ≤ most_segments)

abbrev pub Strategy : ℕ → Type 0
Strategy j = (1 ≤ j) × (j ≤ most_strategies)

abbrev pub Distress : ℕ → Type 0
Distress k = (1 ≤ k) × (k ≤ most_distresses)

abbrev pub Year : ℕ → Type 0
Year t = (1 ≤ t) × (t ≤ most_years)

abbrev pub Pavement : ℕ → Type 0
Pavement y = (1 ≤ y) × (y ≤ most_pavements)

abbrev pub Resource : ℕ → Type 0
Resource r = (1 ≤ r) × (r ≤ most_resources)
