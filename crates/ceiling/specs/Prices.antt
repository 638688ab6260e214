-- What the search for the ceiling reads and keeps in arrays: benefits and down-shares, a price for each of 16 resources, and what each
-- candidate costs at these prices.
use Rattle.std.specs.Prelude.{ℕ, ◌+◌, ◌^◌, ◌≤◌, ◌<◌, ◌≡◌, List, ltb, get_or, length, replicate}
use Rattle.base.specs.Choice.{pick}
use Rattle.rules.specs.District.{most_segments, most_strategies, most_resources}
use Rattle.rules.specs.Table.{Table}
use Rattle.rules.specs.Ceiling.{down_share, cost, ceiling_at}
use Rattle.tables.specs.Arrays.{entry, use_entry, entries, use_entries}
use Rattle.tables.specs.declared.Size.{Size}

-- segment i and strategy j are of the sizes
pub record In (z : Size) (i j : ℕ) : Type 0 where
  pub segment_from : 1 ≤ i
  pub segment_to : i ≤ z.segments
  pub strategy_from : 1 ≤ j
  pub strategy_to : j ≤ z.strategies

-- the arrays hold the benefits and the down-shares of the table t
pub record Priced (t : Table) (z : Size) (b d : List ℕ) : Type 0 where
  pub segments : z.segments ≡ t.segments
  pub strategies : z.strategies ≡ t.strategies
  pub resources : z.resources ≡ t.resources
  pub benefits : (i j : ℕ) → In z i j → get_or b (entry i j) 0 ≡ t.benefit i j
  pub shares : (i j r : ℕ) → In z i j → 1 ≤ r → r ≤ z.resources → get_or d (use_entry i j r) 0 ≡ down_share t i j r

-- the sizes, and bounds under which no sum wraps: a candidate has no down-share above the whole limit
pub record Sized (z : Size) (b d : List ℕ) : Type 0 where
  pub segments : z.segments ≤ most_segments
  pub strategies : z.strategies ≤ most_strategies
  pub resources_from : 1 ≤ z.resources
  pub resources_to : z.resources ≤ most_resources
  pub benefits_length : length b ≡ entries
  pub shares_length : length d ≡ use_entries
  pub benefit_small : (k : ℕ) → get_or b k 0 < 2 ^ 40
  pub share_small : (i j r : ℕ) → In z i j → 0 < get_or b (entry i j) 0 → 1 ≤ r → r ≤ z.resources → get_or d (use_entry i j r) 0 ≤ 10_000

-- a table with the arrays' benefits, whose uses are parts of limits of 10,000: its down-shares are the arrays'
abbrev pub priced_table : Size → List ℕ → List ℕ → Table
priced_table z b d =
    record {
      segments = z.segments;
      strategies = z.strategies;
      resources = z.resources;
      benefit = λ i j. get_or b (entry i j) 0;
      usage = λ i j r. get_or d (use_entry i j r) 0;
      limit = λ _. 10_000;
    }

-- all prices 0
abbrev pub free : List ℕ
free = replicate most_resources 0

-- 16 prices, each below 2 ^ 41
pub record Prices (p : List ℕ) : Type 0 where
  pub places : length p ≡ most_resources
  pub small : (k : ℕ) → get_or p k 0 < 2 ^ 41

-- of the candidates, those whose entry stands before e have what they cost at the prices new, the others what they cost at old
pub record Costs (z : Size) (b d new old : List ℕ) (e : ℕ) (c : List ℕ) : Type 0 where
  pub places : length c ≡ entries
  pub costs : (i j : ℕ) → In z i j → 0 < get_or b (entry i j) 0 → get_or c (entry i j) 0 ≡ cost (priced_table z b d) (pick (ltb (entry i j) e) new old) i j

-- 16 prices, with room for a step of each
pub record Headroom (step : ℕ) (p : List ℕ) : Type 0 where
  pub places : length p ≡ most_resources
  pub room : (k : ℕ) → get_or p k 0 + step < 2 ^ 41

-- the search stands at the prices p: what each candidate costs at them, and the ceiling
pub record Standing (z : Size) (b d p c : List ℕ) (x : ℕ) : Type 0 where
  pub costs : Costs z b d p p 0 c
  pub value : x ≡ ceiling_at (priced_table z b d) p
