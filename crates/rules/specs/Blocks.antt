-- Document 02, request 13: a district's segments in up to four blocks, each planned by itself with limits of its own, before the whole district is
-- planned on from there.
-- Blocks are chosen by one row of numbers: for each block the first and the last segment, and its part of each limit, in whole units.
use Rattle.std.specs.Prelude.{ℕ, zero, suc, ◌+◌, ◌-◌, ◌*◌, ◌/◌, Bool, not, ◌&&◌, ◌||◌, List, [], ◌++◌, leb, eqb, length, get_or, replicate, take, drop}
use Rattle.base.specs.Choice.{pick}
use Rattle.base.specs.Over.{sum, all, between}
use Rattle.base.specs.Search.{Run}
use Rattle.rules.specs.District.{District, most_segments, most_resources, segments_of, resources_of, limit_of, leader_of, all_bars, with_limit, with_bars}
use Rattle.rules.specs.File.{in_range}
use Rattle.rules.specs.Table.{Table, table_of}
use Rattle.rules.specs.Phases.{total}
use Rattle.rules.specs.Plan.{reduced, ended, programme_from, no_programme}
use Rattle.rules.specs.declared.Choice.{Choice}
use Rattle.rules.specs.declared.Programme.{Programme}

abbrev pub most_blocks : ℕ
most_blocks = 4

-- as many numbers as that many blocks take in a district with the most resources
abbrev pub choice_places : ℕ
choice_places = most_blocks * (2 + most_resources)

-- what is kept of a row: its whole length, and so many of its numbers from the first on, with zeros behind a shorter row; a longer one is of more than
-- four blocks, or not of whole ones
unfoldable pub choice_of : List ℕ → Choice
choice_of row = record { length = length row; numbers = take choice_places (row ++ replicate choice_places 0) }

-- the empty row: the ordinary plan is made
unfoldable pub no_blocks : Choice
no_blocks = choice_of []

module _ (x : Choice) (d : District) where
  -- ---- the blocks of a choice, numbered from 1

  abbrev pub per_block : ℕ
  per_block = 2 + resources_of d

  unfoldable pub blocks_in : ℕ
  blocks_in = x.length / per_block

  -- number n of block b, from 0
  unfoldable pub number_in : ℕ → ℕ → ℕ
  number_in b n = get_or x.numbers (per_block * (b - 1) + n) 0

  abbrev pub first_of : ℕ → ℕ
  first_of b = number_in b 0

  abbrev pub last_of : ℕ → ℕ
  last_of b = number_in b 1

  abbrev pub part_of : ℕ → ℕ → ℕ
  part_of b r = number_in b (1 + r)

  unfoldable pub in_block : ℕ → ℕ → Bool
  in_block b i = between (first_of b) (last_of b) i

  -- the last segment of block b; 0 before the first block
  unfoldable pub end_of : ℕ → ℕ
  end_of zero = 0
  end_of (suc b) = last_of (suc b)

  -- ---- whether they can be followed

  -- the row is that of one to four whole blocks; no blocks would cover none but a district without segments, for which nothing is planned either way
  unfoldable pub is_row : Bool
  is_row = eqb (per_block * blocks_in) x.length && between 1 most_blocks blocks_in

  -- block b is not empty, and begins with the segment right behind the block before it, the first with segment 1
  unfoldable pub in_order : ℕ → Bool
  in_order b = leb (first_of b) (last_of b) && eqb (first_of b) (end_of (b - 1) + 1)

  -- so stand all of them, and the last ends at N: each of 1 to N is in one block
  unfoldable pub covering : Bool
  covering = all blocks_in in_order && eqb (end_of blocks_in) (segments_of d)

  unfoldable pub part_in : ℕ → ℕ → ℕ
  part_in r b = part_of b r

  -- the parts of resource r add to no more than its limit
  unfoldable pub parts_fit : ℕ → Bool
  parts_fit r = leb (sum blocks_in (part_in r)) (limit_of d r)

  -- segment i is not in block b, or has no leader, or one in the block
  unfoldable pub led_inside : ℕ → ℕ → Bool
  led_inside b i = not (in_block b i) || (eqb (leader_of d i) 0 || in_block b (leader_of d i))

  unfoldable pub leaders_inside : ℕ → Bool
  leaders_inside b = all (segments_of d) (led_inside b)

  unfoldable pub followed : Bool
  followed = is_row && (covering && (all (resources_of d) parts_fit && all blocks_in leaders_inside))

  -- ---- a block by itself: the same district with the block's parts as limits, and every strategy barred on the segments outside

  unfoldable pub with_parts : ℕ → ℕ → District
  with_parts b zero = d
  with_parts b (suc r) = with_limit (with_parts b r) (suc r) (part_of b (suc r))

  unfoldable pub barred_outside : ℕ → ℕ → District
  barred_outside b zero = with_parts b (resources_of d)
  barred_outside b (suc i) =
      let e = barred_outside b i in pick (in_block b (suc i)) e (with_bars e (suc i) (all_bars d))

  unfoldable pub block_district : ℕ → District
  block_district b = barred_outside b (segments_of d)

  unfoldable pub block_table : ℕ → Table
  block_table b = table_of (block_district b)

  -- it is planned by the three phases
  unfoldable pub block_reduced : ℕ → Run (List ℕ)
  block_reduced b = reduced (block_table b) (leader_of (block_district b))

  unfoldable pub block_list : ℕ → List ℕ
  block_list b = ended (block_table b) (leader_of (block_district b))

  unfoldable pub block_steps : ℕ → ℕ
  block_steps b = (block_reduced b).count

  unfoldable pub block_total : ℕ → ℕ
  block_total b = total (block_table b) (block_list b)

  -- ---- all blocks together

  -- the lists of the first b blocks, joined
  unfoldable pub joined : ℕ → List ℕ
  joined zero = replicate most_segments 0
  joined (suc b) = take (end_of b) (joined b) ++ drop (end_of b) (block_list (suc b))

  -- in place of phase 1 of the district; its steps are those of all blocks together
  unfoldable pub by_blocks : Run (List ℕ)
  by_blocks = record { last = joined blocks_in; count = sum blocks_in block_steps }

  -- where phases 2 and 3 of the district begin: where the blocks are not followed, behind its own phase 1, as in the ordinary plan
  unfoldable pub begun : Run (List ℕ)
  begun = pick followed by_blocks (reduced (table_of d) (leader_of d))

  -- all but the steps is the district's own
  unfoldable pub programme_by : Programme
  programme_by = programme_from (table_of d) (leader_of d) begun

  -- What a unit works out, each time anew. Every district that a list of calls leads to is in the file's ranges; a value of the type that is not
  -- has no programme, so that each call is settled without a check by its caller.
  unfoldable pub plan_by : Programme
  plan_by = pick (in_range d) programme_by no_programme
