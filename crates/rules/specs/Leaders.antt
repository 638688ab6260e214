-- Leaders (document 02, request 8), computed from these rules: small districts, each of which tells one rule of theirs from its neglect, both forms
-- of the file, and refusals. What each district comes to is an independent program's (reference/).
use Rattle.std.specs.Prelude.{ℕ, ◌≡◌, refl, true, false, List, [], ◌∷◌, map, set, pos}
use Rattle.rules.specs.Calls.{leader_refusal, load_refusal, edited}
use Rattle.rules.specs.File.{encode}
use Rattle.rules.specs.Demands.{led_by_none}
use Rattle.rules.specs.declared.Edit.TheVariants.{SetLeader}
use Rattle.rules.specs.Writer.{Strategy, Roads, strategy, nothing_demanded, segment, barring, file_of, file_with_leaders, district_with_leaders, district_of}
use Rattle.rules.specs.Results.{Shown, Case, given, shows, whys, in_row, result_of, WorkedCase, ◌⇒◌, Agree}

-- segments of an area of 100, with what is barred on each
abbrev pub roads : ℕ → List Strategy → List (List ℕ) → Roads
roads limit strategies bars =
    record {
      years = 1;
      limits = limit ∷ [];
      greatest = 50 ∷ [];
      strategies = strategies;
      pavements = nothing_demanded ∷ [];
      segments = map (λ barred. barring barred (segment 100 1 [])) bars;
    }

abbrev led : Roads → List ℕ → Case
led d leaders = given Shown (district_with_leaders d leaders)

-- segment 1 has no candidate, so that segments 2 and 3, one behind the other, start with nothing
abbrev pub at_start : Roads
at_start = roads 100 (strategy (10000 ∷ []) (pos 10) 100 ∷ []) ((1 ∷ []) ∷ [] ∷ [] ∷ [] ∷ [])

-- segment 1 steps to nothing and takes segments 2 and 3 along, in one step; 1 and 2 are picked up again
abbrev pub in_a_step : ℕ → Roads
in_a_step limit =
    roads limit (strategy (10000 ∷ []) (pos 1) 100 ∷ strategy (10000 ∷ []) (pos 10) 100 ∷ []) ((2 ∷ []) ∷ (1 ∷ []) ∷ (1 ∷ []) ∷ (1 ∷ []) ∷ [])

-- leader and follower are changed together
abbrev pub together : Roads
together =
    roads 20 (strategy (20000 ∷ []) (pos 40) 100 ∷ strategy (10000 ∷ []) (pos 30) 100 ∷ strategy (10000 ∷ []) (pos 15) 100 ∷ [])
    ((3 ∷ []) ∷ (1 ∷ 2 ∷ []) ∷ [])

-- the leader steps to its next strategy, and its follower stays; of a follower whose leader has something that is no reason
abbrev pub stepped_on : Roads
stepped_on =
    roads 25 (strategy (20000 ∷ []) (pos 20) 100 ∷ strategy (10000 ∷ []) (pos 15) 100 ∷ strategy (10000 ∷ []) (pos 30) 100 ∷ [])
    ((3 ∷ []) ∷ [] ∷ [])

-- a leader with a follower keeps its strategy; without one it may get nothing
abbrev pub kept : List ℕ → Roads
kept second =
    roads 12 (strategy (10000 ∷ []) (pos 20) 100 ∷ strategy (1000 ∷ []) (pos 2) 100 ∷ strategy (11000 ∷ []) (pos 21) 100 ∷ [])
    ((2 ∷ 3 ∷ []) ∷ second ∷ (1 ∷ 2 ∷ []) ∷ [])

-- all is barred on segment 1; strategy 2 has no benefit, and strategy 3 is over the limit alone
abbrev pub without_leader : Roads
without_leader =
    roads 10 (strategy (10000 ∷ []) (pos 10) 100 ∷ strategy (10000 ∷ []) (pos 0) 100 ∷ strategy (20000 ∷ []) (pos 20) 100 ∷ [])
    ((1 ∷ 2 ∷ 3 ∷ []) ∷ [] ∷ [])

abbrev pub leader_cases : List WorkedCase
leader_cases =
    led at_start (0 ∷ 1 ∷ 2 ∷ 0 ∷ []) ⇒ shows (0 ∷ 0 ∷ 0 ∷ 1 ∷ []) 100_000 100_000 300_000 0 0 0
    ∷ led (in_a_step 30) (0 ∷ 1 ∷ 2 ∷ 0 ∷ []) ⇒ shows (1 ∷ 2 ∷ 0 ∷ 2 ∷ []) 210_000 210_000 300_004 1 2 0
    ∷ led (in_a_step 29) (0 ∷ 1 ∷ 2 ∷ 0 ∷ []) ⇒ shows (1 ∷ 0 ∷ 0 ∷ 2 ∷ []) 110_000 110_000 290_024 1 1 0
    ∷ led together (0 ∷ 1 ∷ []) ⇒ shows (2 ∷ 3 ∷ []) 450_000 400_000 450_000 1 0 1
    ∷ led (kept (1 ∷ 3 ∷ [])) (0 ∷ 1 ∷ 0 ∷ []) ⇒ shows (1 ∷ 2 ∷ 0 ∷ []) 220_000 220_000 239_182 1 0 0
    ∷ led (kept (1 ∷ 2 ∷ 3 ∷ [])) (0 ∷ 1 ∷ 0 ∷ []) ⇒ shows (0 ∷ 0 ∷ 3 ∷ []) 210_000 200_000 238_341 1 0 1
    ∷ led stepped_on (0 ∷ 1 ∷ []) ⇒ shows (2 ∷ 3 ∷ []) 450_000 450_000 476_000 1 0 0
    -- the reason stands behind that of no benefit, and before those of limits
    ∷ whys (district_with_leaders without_leader (0 ∷ 1 ∷ [])) ⇒ in_row ((2 ∷ []) ∷ (2 ∷ []) ∷ (2 ∷ []) ∷ (6 ∷ []) ∷ (5 ∷ []) ∷ (6 ∷ []) ∷ [])
    ∷ whys (district_with_leaders stepped_on (0 ∷ 1 ∷ [])) ⇒ in_row ((8 ∷ 1 ∷ []) ∷ (1 ∷ []) ∷ (2 ∷ []) ∷ (8 ∷ 1 ∷ []) ∷ (9 ∷ []) ∷ (1 ∷ []) ∷ [])
    ∷ []

pub leaders : Agree leader_cases
unfolding result_of
leaders = refl

-- ---- the file

-- two segments
abbrev pub one_behind : Roads
one_behind = roads 20 (strategy (20000 ∷ []) (pos 40) 100 ∷ []) ([] ∷ (1 ∷ []) ∷ [])

-- leaders of segment 1 and of segment 2, each behind its record
abbrev pub led_file : ℕ → ℕ → List ℕ
led_file first second = file_with_leaders one_behind (first ∷ second ∷ [])

-- none, one, a segment's own number, a higher one; then either form with the other's first kind, and kinds that name no form
pub loads :
    map load_refusal
    (led_file 0 0 ∷ led_file 0 1 ∷ led_file 1 0 ∷ led_file 0 2 ∷ led_file 0 255
    ∷ set (led_file 0 1) 2 1 ∷ set (file_of one_behind) 2 8 ∷ set (led_file 0 1) 2 9 ∷ set (led_file 0 1) 3 1
    ∷ [])
    ≡ 0 ∷ 0 ∷ 4 ∷ 4 ∷ 4 ∷ 3 ∷ 3 ∷ 2 ∷ 2 ∷ []
unfolding result_of
loads = refl

-- the file has room for leaders where one is set, and else none
pub exports :
    encode (district_with_leaders one_behind (0 ∷ 1 ∷ [])) ∷ encode (district_of one_behind) ∷ []
    ≡ led_file 0 1 ∷ file_of one_behind ∷ []
unfolding result_of
exports = refl

-- what is not promised byte for byte is a file with room for leaders that sets none, and no other
pub excepted : map led_by_none (file_of one_behind ∷ led_file 0 0 ∷ led_file 0 1 ∷ []) ≡ false ∷ true ∷ false ∷ []
unfolding result_of
excepted = refl

-- ---- the call

-- in a district of two segments: no leader and a lower number go; the own number and higher ones do not; 6 comes first
abbrev pub set_leaders : List ℕ → List ℕ
set_leaders d =
    leader_refusal d 1 0 ∷ leader_refusal d 2 0 ∷ leader_refusal d 2 1
    ∷ leader_refusal d 1 1 ∷ leader_refusal d 2 2 ∷ leader_refusal d 1 2 ∷ leader_refusal d 2 18_446_744_073_709_551_615
    ∷ leader_refusal d 0 0 ∷ leader_refusal d 3 1 ∷ leader_refusal d 3 3
    ∷ []

pub calls : set_leaders (district_of one_behind) ≡ 0 ∷ 0 ∷ 0 ∷ 14 ∷ 14 ∷ 14 ∷ 14 ∷ 6 ∷ 6 ∷ 6 ∷ []
unfolding result_of
calls = refl

-- a leader set, and taken away again
pub altered :
    edited (district_of one_behind) (SetLeader 2 1) ∷ edited (district_with_leaders one_behind (0 ∷ 1 ∷ [])) (SetLeader 2 0) ∷ []
    ≡ district_with_leaders one_behind (0 ∷ 1 ∷ []) ∷ district_of one_behind ∷ []
unfolding result_of
altered = refl
