-- What the laws of the phases assume of a table and of a programme. Quantifiers stay within what the table has.
use Rattle.std.specs.Prelude.{ℕ, ◌≤◌, ◌≡◌, ◌⊎◌, List, length}
use Rattle.rules.specs.District.{most_segments}
use Rattle.rules.specs.Table.{Table}
use Rattle.rules.specs.Phases.{strategy_at}

-- at most 64 segments; nothing has no benefit and no uses; each candidate fits each limit alone
pub record FitAlone (t : Table) : Type 0 where
  pub segments : t.segments ≤ most_segments
  pub nothing_worth : (i : ℕ) → 1 ≤ i → i ≤ t.segments → t.benefit i 0 ≡ 0
  pub nothing_uses : (i r : ℕ) → 1 ≤ i → i ≤ t.segments → 1 ≤ r → r ≤ t.resources → t.usage i 0 r ≡ 0
  pub fits :
      (i j r : ℕ) → 1 ≤ i → i ≤ t.segments → 1 ≤ j → j ≤ t.strategies → 1 ≤ r → r ≤ t.resources
      → 1 ≤ t.benefit i j → t.usage i j r ≤ t.limit r

-- on segment i strategy j is nothing, or a candidate
abbrev pub Allowed : Table → ℕ → ℕ → Type 0
Allowed t i j = (j ≡ 0) ⊎ ((1 ≤ j) × (j ≤ t.strategies) × (1 ≤ t.benefit i j))

-- a programme with 64 places, in which each segment has a candidate or nothing
pub record OfCandidates (t : Table) (c : List ℕ) : Type 0 where
  pub places : length c ≡ most_segments
  pub each : (i : ℕ) → 1 ≤ i → i ≤ t.segments → Allowed t i (strategy_at c i)
