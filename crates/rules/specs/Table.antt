-- What the phases and the ceiling read of a district: whole numbers, and benefits of candidates alone. Nothing else of a district matters to
-- them, and a table need not come from one.
use Rattle.std.specs.Prelude.{ℕ, Bool, ◌&&◌, nat_abs}
use Rattle.base.specs.Choice.{pick}
use Rattle.base.specs.Over.{between}
use Rattle.rules.specs.District.{District, segments_of, strategies_of, resources_of}
use Rattle.rules.specs.Rating.{benefit, usage, scaled_limit, candidate}

pub record Table : Type 0 where
  pub segments : ℕ
  pub strategies : ℕ
  pub resources : ℕ
  -- of strategy j on segment i: above 0 for a candidate, 0 for any other strategy and for nothing
  pub benefit : ℕ → ℕ → ℕ
  -- by strategy j on segment i, of resource r; 0 for nothing
  pub usage : ℕ → ℕ → ℕ → ℕ
  -- of resource r, in the measure of uses
  pub limit : ℕ → ℕ

-- the district has segment i and strategy j; what it does not have counts 0
abbrev pub has : District → ℕ → ℕ → Bool
has d i j = between 1 (segments_of d) i && between 1 (strategies_of d) j

unfoldable pub candidate_benefit : District → ℕ → ℕ → ℕ
candidate_benefit d i j = pick (has d i j && candidate d i j) (nat_abs (benefit d i j)) 0

unfoldable pub usage_in : District → ℕ → ℕ → ℕ → ℕ
usage_in d i j r = pick (has d i j && between 1 (resources_of d) r) (usage d i j r) 0

unfoldable pub limit_in : District → ℕ → ℕ
limit_in d r = pick (between 1 (resources_of d) r) (scaled_limit d r) 0

unfoldable pub table_of : District → Table
table_of d =
    record {
      segments = segments_of d;
      strategies = strategies_of d;
      resources = resources_of d;
      benefit = candidate_benefit d;
      usage = usage_in d;
      limit = limit_in d;
    }
