-- Document 01, "The three phases", over a table: the one of a district, or one that arrays hold.
-- A programme is a list with the strategy of each of 64 segments, 0 for nothing. Share, surplus and pull are document 01's own terms.
-- What a sum or a test runs over is a function's last number: `chosen_usage c r` over the segments, `pull_by c i` over the resources.
-- `total` and `within` are Rating's, over a table. What depends on leaders (document 02, request 8) takes them beside the table.
use Rattle.std.specs.Prelude.{ℕ, zero, suc, ◌-◌, ◌*◌, ◌/◌, Bool, not, ◌&&◌, ◌||◌, List, leb, ltb, eqb, get_or, set}
use Rattle.std.specs.Prelude.{Option, None, Some}
use Rattle.base.specs.Choice.{pick, only}
use Rattle.base.specs.Over.{sum, all, best, listed, divide_up}
use Rattle.base.specs.Search.{first, or_else, Run, run}
use Rattle.rules.specs.District.{most_segments}
use Rattle.rules.specs.Table.{Table}

abbrev pub strategy_at : List ℕ → ℕ → ℕ
strategy_at c i = get_or c (i - 1) 0

-- segment i gets strategy j
abbrev pub give : List ℕ → ℕ → ℕ → List ℕ
give c i j = set c (i - 1) j

module _ (t : Table) where
  unfoldable pub is_candidate : ℕ → ℕ → Bool
  is_candidate i j = ltb 0 (t.benefit i j)

  -- on segment i strategy a has a greater benefit than b
  unfoldable pub greater : ℕ → ℕ → ℕ → Bool
  greater i a b = ltb (t.benefit i b) (t.benefit i a)

  unfoldable pub chosen_benefit : List ℕ → ℕ → ℕ
  chosen_benefit c i = t.benefit i (strategy_at c i)

  unfoldable pub total : List ℕ → ℕ
  total c = sum t.segments (chosen_benefit c)

  unfoldable pub chosen_usage : List ℕ → ℕ → ℕ → ℕ
  chosen_usage c r i = t.usage i (strategy_at c i) r

  unfoldable pub used : List ℕ → ℕ → ℕ
  used c r = sum t.segments (chosen_usage c r)

  unfoldable pub holds : List ℕ → ℕ → Bool
  holds c r = leb (used c r) (t.limit r)

  -- every limit holds
  unfoldable pub within : List ℕ → Bool
  within c = all t.resources (holds c)

-- ---- leaders: segment i gets nothing without segment `leader i`, of a lower number; 0 for none

module _ (leader : ℕ → ℕ) where
  -- where the segments get what c says, segment i may have something: it has no leader, or one that has something
  unfoldable pub led : (ℕ → ℕ) → ℕ → Bool
  led c i = eqb (leader i) 0 || ltb 0 (c (leader i))

  unfoldable pub heeds : (ℕ → ℕ) → ℕ → Bool
  heeds c i = eqb (c i) 0 || led c i

  -- of n segments none has something without its leader
  unfoldable pub respects : ℕ → List ℕ → Bool
  respects n c = all n (heeds (strategy_at c))

  -- of n segments those get nothing whose leaders have nothing; by rising number, so that each is settled before its followers
  unfoldable pub pruned : ℕ → List ℕ → List ℕ
  pruned zero c = c
  pruned (suc n) c = let e = pruned n c in pick (led (strategy_at e) (suc n)) e (give e (suc n) 0)

-- ---- phase 1: from the best candidates down, until every limit holds

module _ (t : Table) where
  -- the candidate of greatest benefit, of equals the lowest; 0 where there is none
  unfoldable pub top_candidate : ℕ → ℕ
  top_candidate i = best t.strategies (is_candidate t i) (greater t i)

  unfoldable pub bests : List ℕ
  bests = listed most_segments top_candidate

  -- Share: what part of a limit a strategy uses, in ten-thousandths, any remainder counting as one more; a quotient by 0 is 0.
  unfoldable pub share : ℕ → ℕ → ℕ → ℕ
  share i j r = divide_up (t.usage i j r * 10_000) (t.limit r)

  unfoldable pub chosen_share : List ℕ → ℕ → ℕ → ℕ
  chosen_share c r i = share i (strategy_at c i) r

  -- Surplus of a resource whose limit does not hold: its shares, summed, beyond the whole limit's 10,000.
  unfoldable pub surplus : List ℕ → ℕ → ℕ
  surplus c r = pick (holds t c r) 0 (sum t.segments (chosen_share c r) - 10_000)

  unfoldable pub pull_by : List ℕ → ℕ → ℕ → ℕ
  pull_by c i r = chosen_share c r i * surplus c r

  -- Pull of a segment: how much its strategy weighs on the limits that do not hold.
  unfoldable pub pull : List ℕ → ℕ → ℕ
  pull c i = sum t.resources (pull_by c i)

  unfoldable pub pulls : List ℕ → ℕ → Bool
  pulls c i = ltb 0 (pull c i)

  -- what the segment gives for its pull, in millionths, rounded down
  unfoldable pub ratio : List ℕ → ℕ → ℕ
  ratio c i = chosen_benefit t c i * 1_000_000 / pull c i

  unfoldable pub lesser_ratio : List ℕ → ℕ → ℕ → Bool
  lesser_ratio c a b = ltb (ratio c a) (ratio c b)

  -- the segment to step: of those that pull, the one of least ratio, of equals the lowest
  unfoldable pub weakest : List ℕ → ℕ
  weakest c = best t.segments (pulls c) (lesser_ratio c)

  -- by falling benefit, and among equals by number, candidate j comes after a
  unfoldable pub comes_after : ℕ → ℕ → ℕ → Bool
  comes_after i a j = is_candidate t i j && (greater t i a j || (eqb (t.benefit i j) (t.benefit i a) && ltb a j))

  -- the best of those; 0 when there are none left
  unfoldable pub next_candidate : ℕ → ℕ → ℕ
  next_candidate i a = best t.strategies (comes_after i a) (greater t i)

module _ (t : Table) (leader : ℕ → ℕ) where
  unfoldable pub start : List ℕ
  start = pruned leader t.segments (bests t)

  -- segment i goes on to its next candidate; where none is left, its followers lose what they have with it, and theirs, as one step. 0 is no
  -- segment, which does not occur while some limit does not hold
  unfoldable pub step_down : List ℕ → ℕ → Option (List ℕ)
  step_down c zero = None
  step_down c (suc i) = Some (pruned leader t.segments (give c (suc i) (next_candidate t (suc i) (strategy_at c (suc i)))))

  unfoldable pub step : List ℕ → Option (List ℕ)
  step c = pick (within t c) None (step_down c (weakest t c))

  -- A segment has at most S candidates to step from, which bounds the steps.
  unfoldable pub phase1 : List ℕ → Run (List ℕ)
  phase1 c = run step (t.segments * t.strategies) c

-- ---- phase 2: segments with nothing are picked up, the greatest benefit first

module _ (t : Table) where
  -- candidate j fits beside what the other segments have
  unfoldable pub fitting : List ℕ → ℕ → ℕ → Bool
  fitting c i j = is_candidate t i j && within t (give c i j)

  -- the best that segment i could take, or 0
  unfoldable pub offer : List ℕ → ℕ → ℕ
  offer c i = best t.strategies (fitting c i) (greater t i)

  unfoldable pub offer_benefit : List ℕ → ℕ → ℕ
  offer_benefit c i = t.benefit i (offer c i)

  unfoldable pub greater_offer : List ℕ → ℕ → ℕ → Bool
  greater_offer c a b = ltb (offer_benefit c b) (offer_benefit c a)

  unfoldable pub picked_up : List ℕ → ℕ → Option (List ℕ)
  picked_up c zero = None
  picked_up c (suc i) = Some (give c (suc i) (offer c (suc i)))

module _ (t : Table) (leader : ℕ → ℕ) where
  -- segment i has nothing, may have something, and could take it
  unfoldable pub vacant : List ℕ → ℕ → Bool
  vacant c i = eqb (strategy_at c i) 0 && (led leader (strategy_at c) i && ltb 0 (offer t c i))

  -- the segment to pick up: of equals the lowest; 0 where there is none
  unfoldable pub best_offer : List ℕ → ℕ
  best_offer c = best t.segments (vacant c) (greater_offer t c)

  unfoldable pub pick_up : List ℕ → Option (List ℕ)
  pick_up c = picked_up t c (best_offer c)

  -- Each segment is picked up at most once, which bounds the pick-ups.
  unfoldable pub phase2 : List ℕ → Run (List ℕ)
  phase2 c = run pick_up t.segments c

-- ---- phase 3: changes of one segment or of two, as long as one counts

module _ (t : Table) where
  -- strategy j is not the one that segment i has, and is a candidate or nothing
  unfoldable pub another : List ℕ → ℕ → ℕ → Bool
  another c i j = not (eqb j (strategy_at c i)) && (eqb j 0 || is_candidate t i j)

  -- the first of f 0, f 1, .. f S: strategies in order, nothing before them
  unfoldable pub first_strategy : (ℕ → Option (List ℕ)) → Option (List ℕ)
  first_strategy f = or_else (f 0) (first t.strategies f)

module _ (t : Table) (leader : ℕ → ℕ) where
  -- a change from c to e counts: the total rises, and after the whole of it every limit holds and leaders are respected
  unfoldable pub counts : List ℕ → List ℕ → Bool
  counts c e = ltb (total t c) (total t e) && (within t e && respects leader t.segments e)

  unfoldable pub single : List ℕ → ℕ → ℕ → Option (List ℕ)
  single c i j = only (another t c i j && counts c (give c i j)) (give c i j)

  -- two segments get something else at once
  unfoldable pub pair : List ℕ → ℕ → ℕ → ℕ → ℕ → Option (List ℕ)
  pair c i k a b =
      only (another t c i a && (another t c k b && counts c (give (give c i a) k b))) (give (give c i a) k b)

  -- one segment alone, low numbers first
  unfoldable pub singles_of : List ℕ → ℕ → Option (List ℕ)
  singles_of c i = first_strategy t (single c i)

  unfoldable pub first_single : List ℕ → Option (List ℕ)
  first_single c = first t.segments (singles_of c)

  -- two segments: the lower one varies slowest, the strategy of the higher one fastest
  unfoldable pub pairs_with : List ℕ → ℕ → ℕ → ℕ → Option (List ℕ)
  pairs_with c i k a = first_strategy t (pair c i k a)

  unfoldable pub pairs_of : List ℕ → ℕ → ℕ → Option (List ℕ)
  pairs_of c i k = pick (ltb i k) (first_strategy t (pairs_with c i k)) None

  unfoldable pub pairs_from : List ℕ → ℕ → Option (List ℕ)
  pairs_from c i = first t.segments (pairs_of c i)

  unfoldable pub first_pair : List ℕ → Option (List ℕ)
  first_pair c = first t.segments (pairs_from c)

  -- the first change that counts; single changes come before pairs
  unfoldable pub change : List ℕ → Option (List ℕ)
  change c = or_else (first_single c) (first_pair c)

  -- Each change raises the total, which is never above that of the best candidates: this bounds the changes.
  unfoldable pub phase3 : List ℕ → Run (List ℕ)
  phase3 c = run change (total t (bests t)) c
