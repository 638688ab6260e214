-- What phase 3 remembers of two segments of which every pair of strategies that raises the total goes beyond a limit: the strategies that
-- they have, and for each resource a number. While they have these strategies, and every resource's slack, its limit less its sum, is below
-- its number, still no pair counts. A pair that leaders alone refuse is not remembered: it counts as soon as a third segment lets it.
use Rattle.std.specs.Prelude.{ℕ, ◌+◌, ◌-◌, ◌^◌, ◌≤◌, ◌<◌, ◌≡◌, min, Bool, true, false, ◌&&◌, List, [], eqb, ltb, leb, get_or, set, length}
use Rattle.std.specs.Prelude.{Option, None, Some}
use Rattle.std.specs.Option.{option_eq}
use Rattle.base.specs.Choice.{pick}
use Rattle.base.specs.Over.{all}
use Rattle.rules.specs.District.{most_segments, most_resources}
use Rattle.rules.specs.Table.{Table}
use Rattle.rules.specs.Phases.{strategy_at, give, used, within, another, pair, pairs_with, pairs_of}
use Rattle.tables.specs.declared.Size.{Size}
use Rattle.tables.specs.Arrays.{usage_at, Benefits, Running}
use Rattle.tables.specs.Moves.{Budgets}
use Rattle.phase3.specs.Improve.{counts_two}
use Rattle.phase3.specs.declared.memory.Row.{Row}

-- Slacks and excesses may be negative, so both are kept with this added.
abbrev pub offset : ℕ
offset = 2 ^ 48

-- the excess of strategies a and b in resource r: what they use, less what is given up, which the budget has beyond the limit
abbrev pub excess_of : List ℕ → List ℕ → List ℕ → ℕ → ℕ → ℕ → ℕ → ℕ → ℕ
excess_of u l given i a k b r = usage_at u i a r + usage_at u k b r + (get_or l (r - 1) 0 + offset - get_or given (r - 1) 0)

-- a resource without room, or none where each of them has room
abbrev pub IsShort : ℕ → (ℕ → Bool) → Option ℕ → Type 0
IsShort resources room None = all resources room ≡ true
IsShort resources room (Some r) = (1 ≤ r) × (r ≤ resources) × (room r ≡ false)

-- a row's number for resource r
abbrev pub numbers : Row → ℕ → ℕ
numbers row r = get_or row.excesses (r - 1) 0

-- the number for resource r goes down to v
abbrev pub lowered : Row → ℕ → ℕ → Row
lowered row r v = record { holds_for = row.holds_for; excesses = set row.excesses (r - 1) (min v (numbers row r)) }

-- the numbers of a row went down or stayed, and its strategies stayed or went
pub record Lower (row next : Row) : Type 0 where
  pub places : length next.excesses ≡ length row.excesses
  pub strategies : (s : ℕ × ℕ) → next.holds_for ≡ Some s → row.holds_for ≡ Some s
  pub down : (r : ℕ) → numbers next r ≤ numbers row r

-- slacks, one for each resource, with the offset
pub record Slacks (resources : ℕ) (l sums slacks : List ℕ) : Type 0 where
  pub places : length slacks ≡ most_resources
  pub each : (r : ℕ) → 1 ≤ r → r ≤ resources → get_or slacks (r - 1) 0 + get_or sums (r - 1) 0 ≡ get_or l (r - 1) 0 + offset

-- segments i and k have strategies x and y in programme c, and each slack is below the row's number for its resource
pub record Tight (t : Table) (i k x y : ℕ) (row : ℕ → ℕ) (c : List ℕ) : Type 0 where
  pub places : t.segments ≤ length c
  pub first : strategy_at c i ≡ x
  pub second : strategy_at c k ≡ y
  pub short : (r : ℕ) → 1 ≤ r → r ≤ t.resources → t.limit r + offset < row r + used t c r

-- a row holds for its strategies: of the programmes that are tight with them none has a pair that counts
abbrev pub Holds : Table → (ℕ → ℕ) → ℕ → ℕ → Row → Type 0
Holds t leader i k row =
    (x y : ℕ) → row.holds_for ≡ Some (x, y) → (c : List ℕ) → Tight t i k x y (numbers row) c → pairs_of t leader c i k ≡ None

-- half of the segments
abbrev pub half : ℕ
half = 32

-- a row that holds for none
abbrev pub unused : Row
unused = record { holds_for = None; excesses = [] }

-- Where the row of segments i and k stands: of the square of rows those above the diagonal would be used alone, so the ones of the upper half
-- stand below it, mirrored.
abbrev pub place : ℕ → ℕ → ℕ × ℕ
place i k = pick (leb i half) (i - 1, k - 1) (most_segments - i, most_segments - k)

abbrev pub row_of : List (List Row) → ℕ → ℕ → Row
row_of rows i k = get_or (get_or rows (place i k).0 []) (place i k).1 unused

-- every row of the memory holds
pub record Remembers (t : Table) (leader : ℕ → ℕ) (rows : List (List Row)) : Type 0 where
  pub places : length rows ≡ half
  pub places_of : (i : ℕ) → i < half → length (get_or rows i []) ≡ most_segments
  pub each : (i k : ℕ) → 1 ≤ i → i < k → k ≤ t.segments → Holds t leader i k (row_of rows i k)

-- what a search of segments i and k reads, with the budgets where both give up what they have. What planning and pair hold is in it
-- too, so that a law of the search takes one fact. Tried without the benefits: the laws do not find their table from the rest.
pub record Setting (z : Size) (b u l c sums given : List ℕ) (i k : ℕ) : Type 0 where
  pub benefits : Benefits b
  pub running : Running z u c sums
  pub budgets : Budgets z.resources u l i (strategy_at c i) k (strategy_at c k) given
  pub low : 1 ≤ i
  pub above : i < k
  pub high : k ≤ z.segments

-- what a search of segments i and k in programme c finds out is true of c, and as long as the row has its strategies of every tight programme
pub record Alike (t : Table) (c : List ℕ) (i k : ℕ) (row : Row) (d : List ℕ) : Type 0 where
  pub tight : Tight t i k (strategy_at c i) (strategy_at c k) (numbers row) d
  pub same : row.holds_for ≡ None → d ≡ c

-- in such programmes no pair counts that gives segment i strategy a
abbrev pub PassedWith : Table → (ℕ → ℕ) → List ℕ → ℕ → ℕ → Row → ℕ → Type 0
PassedWith t leader c i k row a = (d : List ℕ) → Alike t c i k row d → pairs_with t leader d i k a ≡ None

-- and none that gives them strategies a and b
abbrev pub PassedPair : Table → (ℕ → ℕ) → List ℕ → ℕ → ℕ → Row → ℕ → ℕ → Type 0
PassedPair t leader c i k row a b = (d : List ℕ) → Alike t c i k row d → pair t leader d i k a b ≡ None

-- where the search stands: the row has their strategies or none, programme c is tight, and no first strategy below a counts
pub record Searching (t : Table) (leader : ℕ → ℕ) (c : List ℕ) (i k : ℕ) (row : Row) (a : ℕ) : Type 0 where
  pub places : length row.excesses ≡ most_resources
  pub strategies : (s : ℕ × ℕ) → row.holds_for ≡ Some s → s ≡ (strategy_at c i, strategy_at c k)
  pub tight : Tight t i k (strategy_at c i) (strategy_at c k) (numbers row) c
  pub before : (v : ℕ) → v < a → PassedWith t leader c i k row v

-- a test of the limits, with what the row then remembers where strategies a and b are refused
pub record Refusal (t : Table) (c : List ℕ) (i k a b : ℕ) (row next : Row) (refused : Bool) : Type 0 where
  pub lower : Lower row next
  pub tight : Tight t i k (strategy_at c i) (strategy_at c k) (numbers row) c → Tight t i k (strategy_at c i) (strategy_at c k) (numbers next) c
  pub short : refused ≡ true → (e : List ℕ) → Tight t i k (strategy_at c i) (strategy_at c k) (numbers next) e → within t (give (give e i a) k b) ≡ false

-- a test of a first strategy: none of its pairs counts, whatever the leaders, or it is another one
pub record WithTest (t : Table) (c : List ℕ) (i k a : ℕ) (row next : Row) (may : Bool) : Type 0 where
  pub lower : Lower row next
  pub tight : Tight t i k (strategy_at c i) (strategy_at c k) (numbers row) c → Tight t i k (strategy_at c i) (strategy_at c k) (numbers next) c
  pub other : may ≡ true → another t c i a ≡ true
  pub passed : may ≡ false → (leader : ℕ → ℕ) → PassedWith t leader c i k next a

-- a test of a pair: one that counts takes the row's strategies
pub record PairTest (t : Table) (leader : ℕ → ℕ) (c : List ℕ) (i k a b : ℕ) (row next : Row) (ok : Bool) : Type 0 where
  pub lower : Lower row next
  pub tight : Tight t i k (strategy_at c i) (strategy_at c k) (numbers row) c → Tight t i k (strategy_at c i) (strategy_at c k) (numbers next) c
  pub counted : ok ≡ true → (counts_two t leader c i k a b ≡ true) × (next.holds_for ≡ None)
  pub passed : ok ≡ false → PassedPair t leader c i k next a b

-- a row for strategies x and y, and a slack that is below its number
abbrev pub same_strategies : Option (ℕ × ℕ) → ℕ → ℕ → Bool
same_strategies o x y = option_eq (λ s t. eqb s.0 t.0 && eqb s.1 t.1) o (Some (x, y))

unfoldable pub below : List ℕ → Row → ℕ → Bool
below slacks row r = ltb (get_or slacks (r - 1) 0) (numbers row r)
