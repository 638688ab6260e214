-- Document 01, "The ceiling" (its own term, as are prices and down-shares): no programme of permitted strategies within the limits has a
-- total above it.
use Rattle.std.specs.Prelude.{ℕ, zero, suc, ◌+◌, ◌-◌, ◌*◌, ◌/◌, ◌^◌, Bool, ◌&&◌, List, leb, ltb, get_or, set, replicate}
use Rattle.base.specs.Choice.{pick}
use Rattle.base.specs.Over.{sum, most}
use Rattle.rules.specs.District.{most_resources}
use Rattle.rules.specs.Table.{Table}

-- Prices are a list with one for each of 16 resources.
abbrev pub price_at : List ℕ → ℕ → ℕ
price_at prices r = get_or prices (r - 1) 0

abbrev pub raised : List ℕ → ℕ → ℕ → List ℕ
raised prices r s = set prices (r - 1) (price_at prices r + s)

abbrev pub lowered : List ℕ → ℕ → ℕ → List ℕ
lowered prices r s = set prices (r - 1) (price_at prices r - s)

module _ (t : Table) where
  -- a share, rounded down
  unfoldable pub down_share : ℕ → ℕ → ℕ → ℕ
  down_share i j r = t.usage i j r * 10_000 / t.limit r

  unfoldable pub cost_by : List ℕ → ℕ → ℕ → ℕ → ℕ
  cost_by prices i j r = price_at prices r * down_share i j r

  -- what strategy j on segment i costs at these prices
  unfoldable pub cost : List ℕ → ℕ → ℕ → ℕ
  cost prices i j = sum t.resources (cost_by prices i j)

  -- what is left of its benefit, at least 0 (_-_ stops there); 0 for a strategy that is no candidate, whose benefit is 0
  unfoldable pub net : List ℕ → ℕ → ℕ → ℕ
  net prices i j = t.benefit i j - cost prices i j

  unfoldable pub margin : List ℕ → ℕ → ℕ
  margin prices i = most t.strategies (net prices i)

  -- the whole limits at their prices, and the best that each segment has left
  unfoldable pub ceiling_at : List ℕ → ℕ
  ceiling_at prices = 10_000 * sum t.resources (price_at prices) + sum t.segments (margin prices)

  abbrev pub lowers : List ℕ → List ℕ → Bool
  lowers prices new = ltb (ceiling_at new) (ceiling_at prices)

  -- resource r is tried dearer by s, then cheaper by s, and keeps the first price that brings the ceiling down
  unfoldable pub priced : ℕ → List ℕ → ℕ → List ℕ
  priced s prices r =
      pick (lowers prices (raised prices r s)) (raised prices r s)
      (pick (leb s (price_at prices r) && lowers prices (lowered prices r s)) (lowered prices r s)
      prices)

  -- the first n resources in order
  unfoldable pub priced_all : ℕ → ℕ → List ℕ → List ℕ
  priced_all s zero prices = prices
  priced_all s (suc n) prices = priced s (priced_all s n prices) (suc n)

  -- all free at first; after n rounds, whose step halves each time
  unfoldable pub prices_after : ℕ → List ℕ
  prices_after zero = replicate most_resources 0
  prices_after (suc n) = priced_all (2 ^ (40 - n)) t.resources (prices_after n)

  -- after the round with step 1
  unfoldable pub ceiling : ℕ
  ceiling = ceiling_at (prices_after 41)
