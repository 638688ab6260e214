-- What a strategy treats of a segment.
use Rattle.std.specs.Prelude.{ℕ, ◌≡◌}
use Rattle.base.specs.Choice.{pick}
use Rattle.rules.specs.District.{District}
use Rattle.rules.specs.Rating.{area}
use Rattle.rules.specs.Table.{has}
use Rattle.rating.specs.Numbers.{Segment}

-- its area; 0 for a segment or a strategy that the district does not have
unfoldable pub area_in : District → ℕ → ℕ → ℕ
area_in d i j = pick (has d i j) (area d i) 0

-- a is what strategy j treats of some segment
pub record Treats (d : District) (j a : ℕ) : Type 0 where
  pub segment : ℕ
  pub there : Segment segment
  pub treated : a ≡ area_in d segment j
