-- A table that arrays hold: for each segment that there may be a benefit of nothing and of each strategy, a use of each resource for
-- each of those, and the limits. Leaders stand in an array beside it.
use Rattle.std.specs.Prelude.{ℕ, ◌+◌, ◌-◌, ◌*◌, ◌^◌, ◌≤◌, ◌<◌, ◌≡◌, ◌&&◌, List, get_or, length}
use Rattle.base.specs.Choice.{pick}
use Rattle.base.specs.Over.{between}
use Rattle.rules.specs.District.{most_segments, most_strategies, most_resources}
use Rattle.rules.specs.Table.{Table}
use Rattle.rules.specs.Phases.{strategy_at, used}
use Rattle.tables.specs.declared.Size.{Size}

-- the entries of a segment, one for nothing and one for each strategy; those of all segments; and a use of each resource for each
abbrev pub columns : ℕ
columns = most_strategies + 1

abbrev pub entries : ℕ
entries = most_segments * columns

abbrev pub use_entries : ℕ
use_entries = most_resources * entries

-- where segment i's entry for strategy j stands
abbrev pub entry : ℕ → ℕ → ℕ
entry i j = columns * (i - 1) + j

-- what stands there
abbrev pub entry_at : List ℕ → ℕ → ℕ → ℕ
entry_at b i j = get_or b (entry i j) 0

-- where its use of resource r stands
abbrev pub use_entry : ℕ → ℕ → ℕ → ℕ
use_entry i j r = most_resources * entry i j + (r - 1)

unfoldable pub benefit_at : List ℕ → ℕ → ℕ → ℕ
benefit_at b i j = pick (between 1 most_segments i && between 1 most_strategies j) (get_or b (entry i j) 0) 0

unfoldable pub usage_at : List ℕ → ℕ → ℕ → ℕ → ℕ
usage_at u i j r = pick (between 1 most_segments i && (between 1 most_strategies j && between 1 most_resources r)) (get_or u (use_entry i j r) 0) 0

unfoldable pub limit_at : List ℕ → ℕ → ℕ
limit_at l r = pick (between 1 most_resources r) (get_or l (r - 1) 0) 0

abbrev pub tables : Size → List ℕ → List ℕ → List ℕ → Table
tables z b u l =
    record {
      segments = z.segments;
      strategies = z.strategies;
      resources = z.resources;
      benefit = benefit_at b;
      usage = usage_at u;
      limit = limit_at l;
    }

-- the leader of segment i, where an array holds them
abbrev pub leader_in : List ℕ → ℕ → ℕ
leader_in ls i = get_or ls (i - 1) 0

-- each is a segment's number, or 0
pub record Leaders (ls : List ℕ) : Type 0 where
  pub places : length ls ≡ most_segments
  pub small : (k : ℕ) → get_or ls k 0 ≤ most_segments

-- benefits, uses and limits: how many, bounds under which no sum wraps, and nothing's entries
pub record Benefits (b : List ℕ) : Type 0 where
  pub places : length b ≡ entries
  pub small : (k : ℕ) → get_or b k 0 < 2 ^ 40
  pub nothing : (i : ℕ) → 1 ≤ i → i ≤ most_segments → get_or b (entry i 0) 0 ≡ 0

pub record Uses (u : List ℕ) : Type 0 where
  pub places : length u ≡ use_entries
  pub small : (k : ℕ) → get_or u k 0 < 2 ^ 41
  pub nothing : (i r : ℕ) → 1 ≤ i → i ≤ most_segments → 1 ≤ r → r ≤ most_resources → get_or u (use_entry i 0 r) 0 ≡ 0

pub record Limits (l : List ℕ) : Type 0 where
  pub places : length l ≡ most_resources
  pub small : (k : ℕ) → get_or l k 0 < 2 ^ 47

-- no more segments, strategies and resources than the arrays have places for
pub record Bounded (z : Size) : Type 0 where
  pub segments : z.segments ≤ most_segments
  pub strategies : z.strategies ≤ most_strategies
  pub resources : z.resources ≤ most_resources

-- arrays that hold a table
pub record Tabled (z : Size) (b u l : List ℕ) : Type 0 where
  pub bounded : Bounded z
  pub benefits : Benefits b
  pub uses : Uses u
  pub limits : Limits l

-- the arrays have an entry for strategy j on segment i
pub record Cell (i j : ℕ) : Type 0 where
  pub low : 1 ≤ i
  pub high : i ≤ most_segments
  pub number : j ≤ most_strategies

-- a programme has one strategy number for each segment that there may be
pub record Chosen (z : Size) (c : List ℕ) : Type 0 where
  pub places : length c ≡ most_segments
  pub numbers : (i : ℕ) → strategy_at c i ≤ z.strategies

-- a programme with the running sum of what it uses of each resource, whatever the benefits and limits are
pub record Running (z : Size) (u c sums : List ℕ) : Type 0 where
  pub bounded : Bounded z
  pub uses : Uses u
  pub chosen : Chosen z c
  pub sums_length : length sums ≡ most_resources
  pub sums_are : (b l : List ℕ) (r : ℕ) → 1 ≤ r → r ≤ z.resources → get_or sums (r - 1) 0 ≡ used (tables z b u l) c r
