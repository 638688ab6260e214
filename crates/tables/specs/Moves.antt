-- Moves of one segment or two from strategy to strategy, by the running sums.
use Rattle.std.specs.Prelude.{ℕ, ◌+◌, ◌-◌, ◌≤◌, ◌<◌, ◌^◌, ◌≡◌, Bool, List, leb, get_or, length}
use Rattle.tables.specs.declared.Size.{Size}
use Rattle.tables.specs.declared.Move.{Move}
use Rattle.tables.specs.Arrays.{usage_at}
use Rattle.rules.specs.District.{most_resources}

-- Budgets, where segments i and k give up strategies x and y: of each of the first resources its limit, and what they use of it now.
pub record Budgets (resources : ℕ) (u l : List ℕ) (i x k y : ℕ) (budgets : List ℕ) : Type 0 where
  pub places : length budgets ≡ most_resources
  pub each : (r : ℕ) → 1 ≤ r → r ≤ resources → get_or budgets (r - 1) 0 ≡ get_or l (r - 1) 0 + (usage_at u i x r + usage_at u k y r)

-- what a test of the first resources reads, and bounds under which no sum wraps
pub record Testable (resources : ℕ) (sums budgets : List ℕ) : Type 0 where
  pub few : resources ≤ most_resources
  pub sums_length : length sums ≡ most_resources
  pub sums_small : (r : ℕ) → 1 ≤ r → r ≤ resources → get_or sums (r - 1) 0 ≤ 2 ^ 47
  pub budgets_length : length budgets ≡ most_resources

-- resource r suffices where segment i then gets strategy a and segment k strategy b
unfoldable pub room_for : List ℕ → List ℕ → List ℕ → ℕ → ℕ → ℕ → ℕ → ℕ → Bool
room_for u sums budgets i a k b r = leb (get_or sums (r - 1) 0 + (usage_at u i a r + usage_at u k b r)) (get_or budgets (r - 1) 0)

-- the segment and the strategy of a move are the table's
abbrev pub Inside : Size → Move → Type 0
Inside z m = (1 ≤ m.0) × (m.0 ≤ z.segments) × (m.1 ≤ z.strategies)

-- sums that can lose what less has in their places and gain what more has, none of which wraps
pub record Shiftable (sums less more : List ℕ) : Type 0 where
  pub less_there : length sums ≤ length less
  pub more_there : length sums ≤ length more
  pub held : (k : ℕ) → k < length sums → get_or less k 0 ≤ get_or sums k 0
  pub small : (k : ℕ) → k < length sums → get_or sums k 0 + get_or more k 0 < 2 ^ 64

-- the sums after it
pub record Shifted (old less more new : List ℕ) : Type 0 where
  pub places : length new ≡ length old
  pub each : (k : ℕ) → k < length old → get_or new k 0 + get_or less k 0 ≡ get_or old k 0 + get_or more k 0
