-- A programme as demand 3 takes it, a function from segments to strategies, over a table, and over leaders beside it.
use Rattle.std.specs.Prelude.{ℕ, ◌≤◌, ◌≡◌, true}
use Rattle.base.specs.Over.{sum}
use Rattle.rules.specs.Table.{Table}
use Rattle.rules.specs.Phases.{heeds}
use Rattle.laws.specs.Tables.{Allowed}

module _ (t : Table) (c : ℕ → ℕ) where
  abbrev pub total_by : ℕ
  total_by = sum t.segments (λ i. t.benefit i (c i))

  abbrev pub used_by : ℕ → ℕ
  used_by r = sum t.segments (λ i. t.usage i (c i) r)

  -- of strategies of the table, candidates or not, within the limits
  pub record Rival : Type 0 where
    pub numbers : (i : ℕ) → 1 ≤ i → i ≤ t.segments → c i ≤ t.strategies
    pub within : (r : ℕ) → 1 ≤ r → r ≤ t.resources → used_by r ≤ t.limit r

  -- leaders are respected, and have candidates or nothing
  pub record Heeding (leader : ℕ → ℕ) : Type 0 where
    pub heeds : (i : ℕ) → 1 ≤ i → i ≤ t.segments → heeds leader c i ≡ true
    pub worth : (i : ℕ) → 1 ≤ i → i ≤ t.segments → 1 ≤ leader i → Allowed t (leader i) (c (leader i))
