-- Blocks (document 02, request 13), computed from these rules: which rows are followed, districts planned in blocks, and how long a choice is kept.
-- Worked by hand from the request.
use Rattle.std.specs.Prelude.{ℕ, ◌≡◌, refl, Bool, true, false, List, [], ◌∷◌, ◌++◌, map, replicate, pos}
use Rattle.rules.specs.District.{District, fresh_district}
use Rattle.rules.specs.Blocks.{choice_of, followed, block_total}
use Rattle.rules.specs.Lists.{Call, Load, Alter, ChooseBlocks, choice_after}
use Rattle.rules.specs.Writer.{Roads, strategy, nothing_demanded, segment, file_of, district_with_leaders, district_of}
use Rattle.rules.specs.Results.{shown, in_blocks, shows, result_of, WorkedCase, ◌⇒◌, Agree}
use Rattle.rules.specs.Leaders.{roads as roads_barring, together}
use Rattle.rules.specs.declared.Edit.TheVariants.{Bar, Unbar, SetLimit, SetRating, SetLeader}

-- ---- which rows are followed

abbrev pub roads : List ℕ → List ℕ → Roads
roads limits lengths =
    record {
      years = 1;
      limits = limits;
      greatest = 50 ∷ [];
      strategies = strategy (4000 ∷ []) (pos 20) 100 ∷ strategy (1000 ∷ []) (pos 9) 100 ∷ [];
      pavements = nothing_demanded ∷ [];
      segments = map (λ length. segment length 1 []) lengths;
    }

abbrev pub tested : District → List (List ℕ) → List Bool
tested d rows = map (λ row. followed (choice_of row) d) rows

abbrev pub five_segments : List ℕ → District
five_segments limits = district_of (roads limits (1 ∷ 1 ∷ 1 ∷ 1 ∷ 1 ∷ []))

-- four blocks and five; one that is empty; rows of another length, and none
pub counted :
    tested (five_segments (9 ∷ []))
    ((1 ∷ 1 ∷ 0 ∷ 2 ∷ 2 ∷ 0 ∷ 3 ∷ 3 ∷ 0 ∷ 4 ∷ 5 ∷ 0 ∷ [])
    ∷ (1 ∷ 1 ∷ 0 ∷ 2 ∷ 2 ∷ 0 ∷ 3 ∷ 3 ∷ 0 ∷ 4 ∷ 4 ∷ 0 ∷ 5 ∷ 5 ∷ 0 ∷ [])
    ∷ (1 ∷ 2 ∷ 0 ∷ 3 ∷ 2 ∷ 0 ∷ 3 ∷ 5 ∷ 0 ∷ [])
    ∷ (1 ∷ 5 ∷ [])
    ∷ (1 ∷ 5 ∷ 0 ∷ 0 ∷ [])
    ∷ []
    ∷ [])
    ≡ true ∷ false ∷ false ∷ false ∷ false ∷ false ∷ []
unfolding result_of
counted = refl

-- of all 16 resources the most blocks, with 2 of each limit for each: 72 numbers; one of the last block's parts, of the last resource, 4 in place of 2;
-- one number more; one block more
abbrev pub full_block : ℕ → ℕ → List ℕ
full_block first last = first ∷ last ∷ replicate 16 2

abbrev pub three_blocks : List ℕ
three_blocks = full_block 1 1 ++ full_block 2 2 ++ full_block 3 3

pub longest :
    tested (five_segments (replicate 16 9))
    ((three_blocks ++ full_block 4 5)
    ∷ (three_blocks ++ 4 ∷ 5 ∷ (replicate 15 2 ++ 4 ∷ []))
    ∷ (three_blocks ++ full_block 4 5 ++ 0 ∷ [])
    ∷ (three_blocks ++ full_block 4 4 ++ full_block 5 5)
    ∷ [])
    ≡ true ∷ false ∷ false ∷ false ∷ []
unfolding result_of
longest = refl

-- a district without segments: an empty block, one behind its end, none
pub without_segments : tested fresh_district ((1 ∷ 0 ∷ 0 ∷ []) ∷ (1 ∷ 1 ∷ 0 ∷ []) ∷ [] ∷ []) ≡ false ∷ false ∷ false ∷ []
unfolding result_of
without_segments = refl

-- all of them; from 2 on, from 0 on, up to 4, up to 6; a gap, an overlap, another order; one block more behind the last segment; and a last segment
-- behind which the next would be 0 in 64 bits
pub covered :
    tested (five_segments (9 ∷ []))
    ((1 ∷ 5 ∷ 9 ∷ [])
    ∷ (2 ∷ 5 ∷ 9 ∷ [])
    ∷ (0 ∷ 5 ∷ 9 ∷ [])
    ∷ (1 ∷ 4 ∷ 9 ∷ [])
    ∷ (1 ∷ 6 ∷ 9 ∷ [])
    ∷ (1 ∷ 2 ∷ 4 ∷ 4 ∷ 5 ∷ 5 ∷ [])
    ∷ (1 ∷ 3 ∷ 4 ∷ 3 ∷ 5 ∷ 5 ∷ [])
    ∷ (3 ∷ 5 ∷ 4 ∷ 1 ∷ 2 ∷ 5 ∷ [])
    ∷ (1 ∷ 5 ∷ 4 ∷ 6 ∷ 6 ∷ 4 ∷ [])
    ∷ (1 ∷ 18_446_744_073_709_551_615 ∷ 0 ∷ 0 ∷ 5 ∷ 0 ∷ [])
    ∷ [])
    ≡ true ∷ false ∷ false ∷ false ∷ false ∷ false ∷ false ∷ false ∷ false ∷ false ∷ []
unfolding result_of
covered = refl

-- a first segment, a last one and a part that would be 1, 5 and 9 in 4 bytes
pub in_full :
    tested (five_segments (9 ∷ []))
    ((4_294_967_297 ∷ 5 ∷ 9 ∷ []) ∷ (1 ∷ 4_294_967_301 ∷ 9 ∷ []) ∷ (1 ∷ 5 ∷ 4_294_967_305 ∷ []) ∷ [])
    ≡ false ∷ false ∷ false ∷ []
unfolding result_of
in_full = refl

-- of a limit of 9: three parts that come to 9, and to 10
pub summed :
    tested (five_segments (9 ∷ []))
    ((1 ∷ 1 ∷ 3 ∷ 2 ∷ 2 ∷ 3 ∷ 3 ∷ 5 ∷ 3 ∷ []) ∷ (1 ∷ 1 ∷ 3 ∷ 2 ∷ 2 ∷ 3 ∷ 3 ∷ 5 ∷ 4 ∷ []) ∷ [])
    ≡ true ∷ false ∷ []
unfolding result_of
summed = refl

-- of limits 5 and 7: just all of both; one more of the first, and of the second; less; and parts whose sum would be 0 in 64 bits
pub parted :
    tested (district_of (roads (5 ∷ 7 ∷ []) (1 ∷ 1 ∷ 1 ∷ 1 ∷ [])))
    ((1 ∷ 2 ∷ 2 ∷ 3 ∷ 3 ∷ 4 ∷ 3 ∷ 4 ∷ [])
    ∷ (1 ∷ 2 ∷ 3 ∷ 3 ∷ 3 ∷ 4 ∷ 3 ∷ 4 ∷ [])
    ∷ (1 ∷ 2 ∷ 2 ∷ 4 ∷ 3 ∷ 4 ∷ 3 ∷ 4 ∷ [])
    ∷ (1 ∷ 2 ∷ 0 ∷ 1 ∷ 3 ∷ 4 ∷ 1 ∷ 0 ∷ [])
    ∷ (1 ∷ 2 ∷ 18_446_744_073_709_551_615 ∷ 0 ∷ 3 ∷ 4 ∷ 1 ∷ 0 ∷ [])
    ∷ [])
    ≡ true ∷ false ∷ false ∷ true ∷ false ∷ []
unfolding result_of
parted = refl

-- segments 2 and 4 follow 1 and 3: each pair in a block, in one, and apart
pub led :
    tested (district_with_leaders (roads (9 ∷ []) (1 ∷ 1 ∷ 1 ∷ 1 ∷ [])) (0 ∷ 1 ∷ 0 ∷ 3 ∷ []))
    ((1 ∷ 2 ∷ 0 ∷ 3 ∷ 4 ∷ 0 ∷ []) ∷ (1 ∷ 4 ∷ 0 ∷ []) ∷ (1 ∷ 1 ∷ 0 ∷ 2 ∷ 4 ∷ 0 ∷ []) ∷ (1 ∷ 3 ∷ 0 ∷ 4 ∷ 4 ∷ 0 ∷ []) ∷ [])
    ≡ true ∷ true ∷ false ∷ false ∷ []
unfolding result_of
led = refl

-- segment 4 of five follows 1: out of the middle of three blocks, where it is not the first, and in a block with it
pub led_from_the_middle :
    tested (district_with_leaders (roads (9 ∷ []) (1 ∷ 1 ∷ 1 ∷ 1 ∷ 1 ∷ [])) (0 ∷ 0 ∷ 0 ∷ 1 ∷ 0 ∷ []))
    ((1 ∷ 2 ∷ 0 ∷ 3 ∷ 4 ∷ 0 ∷ 5 ∷ 5 ∷ 0 ∷ []) ∷ (1 ∷ 4 ∷ 0 ∷ 5 ∷ 5 ∷ 0 ∷ []) ∷ [])
    ≡ false ∷ true ∷ []
unfolding result_of
led_from_the_middle = refl

-- ---- a district in blocks

abbrev pub county : District
county = district_of (roads (19 ∷ []) (200 ∷ 200 ∷ 300 ∷ 100 ∷ []))

-- two blocks, the first with 9 of the limit of 19
abbrev pub two_blocks : ℕ → List ℕ
two_blocks part = 1 ∷ 2 ∷ 9 ∷ 3 ∷ 4 ∷ part ∷ []

-- segment 1 leads all but the last: it steps to nothing and takes them along, and is picked up again with segment 5
abbrev pub picked_up : District
picked_up =
    district_with_leaders
    (roads_barring 10
    (strategy (1000 ∷ []) (pos 1) 100 ∷ strategy (1000 ∷ []) (pos 4) 100 ∷ strategy (3000 ∷ []) (pos 10) 100 ∷ strategy (6000 ∷ []) (pos 50) 100 ∷ [])
    ((2 ∷ 3 ∷ 4 ∷ []) ∷ (1 ∷ 3 ∷ 4 ∷ []) ∷ (1 ∷ 3 ∷ 4 ∷ []) ∷ (1 ∷ 3 ∷ 4 ∷ []) ∷ (1 ∷ 2 ∷ 4 ∷ []) ∷ (1 ∷ 2 ∷ 3 ∷ []) ∷ []))
    (0 ∷ 1 ∷ 1 ∷ 1 ∷ 1 ∷ 0 ∷ [])

-- strategy 1 takes half of the first limit, and strategy 2, which is better, half of the second
abbrev pub halves : District
halves =
    district_of (record {
      years = 1;
      limits = 8 ∷ 6 ∷ [];
      greatest = 50 ∷ [];
      strategies = strategy (4000 ∷ 0 ∷ []) (pos 10) 100 ∷ strategy (0 ∷ 3000 ∷ []) (pos 11) 100 ∷ [];
      pavements = nothing_demanded ∷ [];
      segments = replicate 5 (segment 100 1 []);
    })

-- four blocks, each with half of one limit and nothing of the other
abbrev pub half_each : List ℕ
half_each = 1 ∷ 1 ∷ 4 ∷ 0 ∷ 2 ∷ 3 ∷ 0 ∷ 3 ∷ 4 ∷ 4 ∷ 4 ∷ 0 ∷ 5 ∷ 5 ∷ 0 ∷ 3 ∷ []

abbrev pub plan_cases : List WorkedCase
plan_cases =
    -- steps in both blocks; the second has no room for strategy 1 on segment 3, and gets nothing of what the first leaves; then a pick-up and two
    -- changes over the district
    in_blocks (two_blocks 6) county ⇒ shows (1 ∷ 1 ∷ 2 ∷ 0 ∷ []) 1_070_000 940_000 1_125_440 3 1 2
    -- more than the limit: the ordinary plan
    ∷ in_blocks (two_blocks 11) county ⇒ shows (2 ∷ 2 ∷ 1 ∷ 2 ∷ []) 1_050_000 1_050_000 1_125_440 3 0 0
    -- one block with all the limits: what phase 3 does, and what phase 2 does, is done in the block and not counted
    ∷ in_blocks (1 ∷ 2 ∷ 20 ∷ []) (district_with_leaders together (0 ∷ 1 ∷ [])) ⇒ shows (2 ∷ 3 ∷ []) 450_000 450_000 450_000 1 0 0
    ∷ in_blocks (1 ∷ 6 ∷ 10 ∷ []) picked_up ⇒ shows (1 ∷ 0 ∷ 0 ∷ 0 ∷ 3 ∷ 4 ∷ []) 610_000 610_000 654_000 1 0 0
    -- four blocks: strategy 1 in the first and the third; a step in the second, whose segments both start with strategy 2; nothing is left for segment 2
    ∷ in_blocks half_each halves ⇒ shows (1 ∷ 0 ∷ 2 ∷ 1 ∷ 2 ∷ []) 420_000 420_000 510_000 1 0 0
    ∷ []

pub plans : Agree plan_cases
unfolding result_of
plans = refl

-- the blocks' totals
pub totals : map (block_total (choice_of (two_blocks 6)) county) (1 ∷ 2 ∷ []) ≡ 400_000 ∷ 360_000 ∷ []
unfolding result_of
totals = refl

-- ---- how long a choice is kept

-- two segments, each of which takes half the limit
abbrev pub pair : List ℕ
pair =
    file_of (record {
      years = 1;
      limits = 8 ∷ [];
      greatest = 50 ∷ [];
      strategies = strategy (50000 ∷ []) (pos 50) 100 ∷ [];
      pavements = nothing_demanded ∷ [];
      segments = segment 8 1 [] ∷ segment 8 1 [] ∷ [];
    })

-- one block with half the limit, so that one segment steps and is picked up again
abbrev pub half : Call
half = ChooseBlocks (1 ∷ 2 ∷ 4 ∷ [])

abbrev pub kept_cases : List WorkedCase
kept_cases =
    shown (Load pair ∷ half ∷ []) ⇒ shows (1 ∷ 1 ∷ []) 80_000 80_000 80_000 1 1 0
    -- a limit below the part: the ordinary plan; the limit as it was: the blocks again
    ∷ shown (Load pair ∷ half ∷ Alter (SetLimit 1 3) ∷ []) ⇒ shows (0 ∷ 0 ∷ []) 0 0 0 0 0 0
    ∷ shown (Load pair ∷ half ∷ Alter (SetLimit 1 3) ∷ Alter (SetLimit 1 8) ∷ []) ⇒ shows (1 ∷ 1 ∷ []) 80_000 80_000 80_000 1 1 0
    -- the limit below the part when it is chosen
    ∷ shown (Load pair ∷ Alter (SetLimit 1 3) ∷ half ∷ Alter (SetLimit 1 8) ∷ []) ⇒ shows (1 ∷ 1 ∷ []) 80_000 80_000 80_000 1 1 0
    -- a load ends it, and a refused one does not; a choice of none, and one that is not followed, take its place
    ∷ shown (Load pair ∷ half ∷ Load pair ∷ []) ⇒ shows (1 ∷ 1 ∷ []) 80_000 80_000 80_000 0 0 0
    ∷ shown (Load pair ∷ half ∷ Load [] ∷ []) ⇒ shows (1 ∷ 1 ∷ []) 80_000 80_000 80_000 1 1 0
    ∷ shown (Load pair ∷ half ∷ ChooseBlocks [] ∷ []) ⇒ shows (1 ∷ 1 ∷ []) 80_000 80_000 80_000 0 0 0
    ∷ shown (Load pair ∷ half ∷ ChooseBlocks (1 ∷ 2 ∷ 9 ∷ []) ∷ []) ⇒ shows (1 ∷ 1 ∷ []) 80_000 80_000 80_000 0 0 0
    ∷ []

pub kept : Agree kept_cases
unfolding result_of
kept = refl

-- every other edit keeps it, and a refused one too; while a leader stands outside its block the ordinary plan is made, and then the blocks again. With
-- parts of 0 both segments are picked up over the district.
abbrev pub apart : Call
apart = ChooseBlocks (1 ∷ 1 ∷ 0 ∷ 2 ∷ 2 ∷ 0 ∷ [])

abbrev pub edited_cases : List WorkedCase
edited_cases =
    shown (Load pair ∷ apart ∷ []) ⇒ shows (1 ∷ 1 ∷ []) 80_000 80_000 80_000 0 2 0
    ∷ shown (Load pair ∷ apart ∷ Alter (SetLeader 2 1) ∷ []) ⇒ shows (1 ∷ 1 ∷ []) 80_000 80_000 80_000 0 0 0
    ∷ shown (Load pair ∷ apart ∷ Alter (SetLeader 2 1) ∷ Alter (SetLeader 2 0) ∷ []) ⇒ shows (1 ∷ 1 ∷ []) 80_000 80_000 80_000 0 2 0
    ∷ shown (Load pair ∷ apart ∷ Alter (SetRating 1 1 0) ∷ Alter (Bar 2 1) ∷ Alter (Unbar 2 1) ∷ Alter (SetLimit 2 8) ∷ [])
    ⇒ shows (1 ∷ 1 ∷ []) 80_000 80_000 80_000 0 2 0
    -- chosen before the first load, which ends it
    ∷ shown (apart ∷ Load pair ∷ []) ⇒ shows (1 ∷ 1 ∷ []) 80_000 80_000 80_000 0 0 0
    ∷ []

pub edited : Agree edited_cases
unfolding result_of
edited = refl

-- what the calls themselves say is chosen, by the length of the row: after a load, a refused load, another edit
pub chosen :
    map (λ cs. (choice_after cs).length)
    ((half ∷ Load pair ∷ []) ∷ (Load pair ∷ half ∷ Load [] ∷ []) ∷ (Load pair ∷ half ∷ Alter (SetLimit 1 3) ∷ []) ∷ [])
    ≡ 0 ∷ 3 ∷ 3 ∷ []
unfolding result_of
chosen = refl
