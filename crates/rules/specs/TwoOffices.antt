-- Two offices on one unit (document 02, request 10), computed from these rules: refusals 16 and 17, what a load with other shared tables does to the
-- other office, and both ways in which one office changes an answer to the other; and the blocks that each chooses (request 13). Worked by hand
-- from the requests.
use Rattle.std.specs.Prelude.{ℕ, ◌+◌, ◌*◌, ◌≡◌, refl, Bool, true, false, ◌&&◌, List, [], ◌∷◌, ◌++◌, map, length, replicate, pos}
use Rattle.base.specs.Over.{listed_from}
use Rattle.base.specs.Same.{same}
use Rattle.rules.specs.District.{District, most_segments, most_strategies, most_distresses, most_pavements, most_resources, per_strategy, per_pavement, per_segment, district_places, is_shared, shared_from, shared_tables, same_tables}
use Rattle.rules.specs.Plan.{no_programme}
use Rattle.rules.specs.Meter.{magnitude_of, is_reading, reading_of, nothing_heard, sent_refusal, heard_with, hearing, sum_of, mean_reaches, mays_points, roughness_refusal, points_unless, roughness_of, points_at}
use Rattle.rules.specs.Blocks.{choice_of, no_blocks}
use Rattle.rules.specs.Lists.{Load, Alter, ChooseBlocks, ExportTo, Show, AskWhy}
use Rattle.rules.specs.Offices.{Held, OfficeCall, Plan, Send, AskRoughness, fresh_held, office_refusal, lent_bytes, office_outcome}
use Rattle.rules.specs.Stations.{other, office_number, Both, StationCall, call_of, fresh_both, brings_tables, tables_refusal, refusal_beside, held_beside, station_refusal, concluded, station_outcome, station_from, station_after, districts_by, districts_from, choices_by, choices_from, choices_after, without}
use Rattle.rules.specs.StationDemands.{nothing_more, programme, reason, points, Got, unit_tells, office_tells, gets, got_from, got_by, throughout, leaves_tables, not_in_use}
use Rattle.rules.specs.Writer.{Segment, Roads, strategy, nothing_demanded, segment, barring, filled_up, file_of, file_with_leaders, district_of}
use Rattle.rules.specs.Results.{holding, result_of}
use Rattle.rules.specs.declared.Edit.TheVariants.{Bar, SetLimit}
use Rattle.rules.specs.declared.Sent.TheVariants.{Index, Marker}
use Rattle.rules.specs.declared.Reason.TheVariants.{Barred}
use Rattle.rules.specs.Answers.{Answer, Accepted, Refused}
use Rattle.rules.specs.declared.Choice.{Choice}
use Rattle.rules.specs.declared.Which.{Which}
use Rattle.rules.specs.declared.Which.TheVariants.{First, Second}

-- ---- districts that share their tables, and others

-- T, the gain, limits, segments
abbrev roads : ℕ → ℕ → List ℕ → List Segment → Roads
roads years gain limits segments =
    record {
      years = years;
      limits = limits;
      greatest = 20 ∷ [];
      strategies = record { requirements = 1000 ∷ []; gains = pos gain ∷ []; percents = (80 ∷ 40 ∷ []) ∷ [] } ∷ [];
      pavements = nothing_demanded ∷ [];
      segments = segments;
    }

abbrev sharing : List ℕ → List Segment → Roads
sharing limits segments = roads 2 5 limits segments

abbrev north : Roads
north = sharing (10 ∷ []) (segment 100 20 (5 ∷ []) ∷ [])

abbrev south : Roads
south = sharing (30 ∷ []) (segment 200 10 (4 ∷ []) ∷ segment 50 10 [] ∷ [])

-- as south but for T
abbrev longer : Roads
longer = roads 3 5 (30 ∷ []) (segment 200 10 (4 ∷ []) ∷ segment 50 10 [] ∷ [])

-- ---- calls

abbrev load : ℕ → List ℕ → StationCall
load n file = call_of n (Plan (Load file))

abbrev bar : ℕ → ℕ → ℕ → StationCall
bar n i j = call_of n (Plan (Alter (Bar i j)))

abbrev limit : ℕ → ℕ → ℕ → StationCall
limit n r x = call_of n (Plan (Alter (SetLimit r x)))

abbrev choose : ℕ → List ℕ → StationCall
choose n row = call_of n (Plan (ChooseBlocks row))

abbrev exports : ℕ → StationCall
exports n = call_of n (Plan (ExportTo (replicate 100 0)))

unfoldable pub answers_to : Which → List StationCall → List Answer
unfolding
    is_shared shared_from shared_tables same same_tables
    magnitude_of is_reading reading_of nothing_heard sent_refusal heard_with hearing sum_of mean_reaches mays_points roughness_refusal points_unless roughness_of
    fresh_held office_refusal lent_bytes office_outcome
    fresh_both brings_tables tables_refusal refusal_beside held_beside station_refusal concluded station_outcome station_from station_after
    unit_tells office_tells gets got_from got_by throughout leaves_tables not_in_use without result_of
answers_to w cs = map (λ g. g.answer) (got_by w cs)

-- ---- 16, before all else: refusals 6, 1, 12 and 13, and a show, for numbers that no office has, also where their low bits are an office's
abbrev asked : ℕ → List Answer
asked n =
    map (λ (c : OfficeCall). (station_outcome fresh_both (call_of n c)).answer)
    (Plan (Alter (Bar 9 9)) ∷ Plan (Load []) ∷ Send (Index 1090519040) ∷ AskRoughness ∷ Plan Show ∷ [])

pub nobody :
    map asked (1 ∷ 2 ∷ 0 ∷ 3 ∷ 257 ∷ 4_294_967_297 ∷ 18_446_744_073_709_551_615 ∷ [])
    ≡ replicate 2 (Refused 6 ∷ Refused 1 ∷ Refused 12 ∷ Refused 13 ∷ Accepted 0 ∷ [])
    ++ replicate 5 (replicate 5 (Refused 16))
unfolding answers_to
nobody = refl

-- ---- 17: other shared tables, while the other office has segments

-- of all places of a district: N is not shared, the five other counts are; limits are not; greatest ratings, strategies and pavement types are;
-- segments are not
pub places :
    map is_shared (listed_from district_places 0 (λ place. place))
    ≡ false ∷ replicate 5 true
    ++ replicate most_resources false
    ++ replicate (most_distresses + per_strategy * most_strategies + per_pavement * most_pavements) true
    ++ replicate (per_segment * most_segments) false
unfolding is_shared listed_from
places = refl

-- what an office holds that has these roads, and has heard nothing
abbrev office : Roads → Held
office d = record { unit = holding (district_of d); heard = nothing_heard }

-- only office 1 has segments
abbrev north_alone : Both Held
north_alone = record { first = office north; second = office (sharing (0 ∷ []) []) }

-- T differs; then limits, segments and leaders, and with them the file's form, which are not shared; after the file's own refusals; never for one's
-- own segments; not before 16
pub in_order :
    map (λ c. station_refusal north_alone c)
    (load 2 (file_of longer)
    ∷ load 2 (file_with_leaders south (0 ∷ 1 ∷ []))
    ∷ load 2 (file_of longer ++ 0 ∷ []) ∷ load 2 []
    ∷ load 1 (file_of longer)
    ∷ load 3 (file_of longer)
    ∷ [])
    ≡ 17 ∷ 0 ∷ 5 ∷ 1 ∷ 0 ∷ 16 ∷ []
unfolding answers_to
in_order = refl

-- ---- what the other office then holds

abbrev plainly : Answer → Got
plainly answer = record { answer = answer; bytes = []; told = nothing_more }

-- new tables: no segment, limits 0, as many as there are resources now, and nothing planned; what its meter sent stays
abbrev new_tables : List StationCall
new_tables =
    limit 2 1 9
    ∷ call_of 2 (Send (Marker 7))
    ∷ call_of 2 (Send (Index 1083598848))
    ∷ load 1 (file_of (sharing (10 ∷ 20 ∷ []) (segment 100 20 (5 ∷ []) ∷ [])))
    ∷ call_of 2 AskRoughness
    ∷ call_of 2 (Plan Show)
    ∷ limit 2 2 9
    ∷ exports 2
    ∷ []

pub put_back :
    got_by Second new_tables
    ≡ plainly (Accepted 0)
    ∷ plainly (Accepted 0)
    ∷ plainly (Accepted 0)
    ∷ record { answer = Accepted 0; bytes = []; told = points (Accepted (points_at 0 7)) }
    ∷ record { answer = Accepted 0; bytes = []; told = programme no_programme }
    ∷ plainly (Accepted 0)
    ∷ (let file = file_of (sharing (0 ∷ 9 ∷ []) []) in record { answer = Accepted (length file); bytes = filled_up 0 100 file; told = nothing_more })
    ∷ []
unfolding answers_to
put_back = refl

-- where neither has segments: the other's limit stays where a load brings equal tables, and does not where it brings another gain alone
abbrev none_has : Both Held
none_has = record { first = office (sharing (10 ∷ []) []); second = office (sharing (9 ∷ []) []) }

pub limits :
    map (λ file. (station_outcome none_has (load 1 file)).held.second.unit.district) (file_of north ∷ file_of (roads 2 6 (10 ∷ []) []) ∷ [])
    ≡ district_of (sharing (9 ∷ []) []) ∷ district_of (roads 2 6 (0 ∷ []) []) ∷ []
unfolding answers_to
limits = refl

-- equal tables: each keeps what it has; the last of these calls gets 17
abbrev equal_tables : List StationCall
equal_tables = load 2 (file_of south) ∷ bar 1 1 1 ∷ limit 2 1 31 ∷ bar 2 2 1 ∷ load 2 (file_of longer) ∷ []

abbrev districts : Both Held → List District
districts b = b.first.unit.district ∷ b.second.unit.district ∷ []

pub kept :
    districts (station_from north_alone equal_tables)
    ≡ district_of (sharing (10 ∷ []) (barring (1 ∷ []) (segment 100 20 (5 ∷ [])) ∷ []))
    ∷ district_of (sharing (31 ∷ []) (segment 200 10 (4 ∷ []) ∷ barring (1 ∷ []) (segment 50 10 []) ∷ []))
    ∷ []
unfolding answers_to
kept = refl

-- a why is told to the office that asks
abbrev both_have : Both Held
both_have = record { first = office north; second = office (sharing (30 ∷ []) (barring (1 ∷ []) (segment 50 10 []) ∷ [])) }

pub asked_why :
    gets both_have (call_of 2 (Plan (AskWhy 1 1))) ∷ []
    ≡ record { answer = Accepted 0; bytes = []; told = reason (Accepted Barred) } ∷ []
unfolding answers_to
asked_why = refl

-- ---- blocks

-- two segments, of which each takes half the limit
abbrev halves : Roads
halves = sharing (40 ∷ []) (segment 100 20 (5 ∷ []) ∷ segment 100 20 (5 ∷ []) ∷ [])

abbrev both_halves : Both Held
both_halves = record { first = office halves; second = office halves }

-- a row that is followed, one that is not, an empty one: nothing but the office's number refuses them
pub choices :
    map (λ c. (station_outcome both_halves c).answer)
    (choose 1 (1 ∷ 2 ∷ 20 ∷ []) ∷ choose 2 (1 ∷ 2 ∷ 41 ∷ []) ∷ choose 1 [] ∷ choose 3 (1 ∷ 2 ∷ 20 ∷ []) ∷ [])
    ≡ Accepted 0 ∷ Accepted 0 ∷ Accepted 0 ∷ Refused 16 ∷ []
unfolding answers_to
choices = refl

-- the steps of both offices: in one block with half the limit a segment steps, in the plan of the office that chose it alone
abbrev steps : Both Held → List ℕ
steps b = b.first.unit.programme.steps ∷ b.second.unit.programme.steps ∷ []

pub one_chooses :
    map (λ n. steps (station_outcome both_halves (choose n (1 ∷ 2 ∷ 20 ∷ []))).held) (1 ∷ 2 ∷ 3 ∷ [])
    ≡ (1 ∷ 0 ∷ []) ∷ (0 ∷ 1 ∷ []) ∷ (0 ∷ 0 ∷ []) ∷ []
unfolding answers_to
one_chooses = refl

-- a choice stays over a load of the other office, and over one of its own that gets 17; an accepted one of its own ends it
pub kept_over_loads :
    map (λ c. steps (station_from both_halves (choose 2 (1 ∷ 2 ∷ 20 ∷ []) ∷ c ∷ [])))
    (load 1 (file_of halves) ∷ load 2 (file_of longer) ∷ load 2 (file_of halves) ∷ [])
    ≡ (0 ∷ 1 ∷ []) ∷ (0 ∷ 1 ∷ []) ∷ (0 ∷ 0 ∷ []) ∷ []
unfolding answers_to
kept_over_loads = refl

-- new tables leave it to the other office
pub kept_with_new_tables :
    (station_from north_alone (choose 2 (1 ∷ 2 ∷ 9 ∷ []) ∷ load 1 (file_of longer) ∷ [])).second.unit.choice ≡ choice_of (1 ∷ 2 ∷ 9 ∷ [])
unfolding answers_to
kept_with_new_tables = refl

-- what the calls of both say that each has chosen, by the length of the row: over one of its own loads that gets 17, since the other has loaded before;
-- over the other's load, and after an accepted one of its own
abbrev chosen_in : Both Choice → List ℕ
chosen_in x = x.first.length ∷ x.second.length ∷ []

abbrev chosen_by_second : Both Choice
chosen_by_second = record { first = no_blocks; second = choice_of (1 ∷ 2 ∷ 9 ∷ []) }

pub chosen_by_each :
    chosen_in (choices_after (load 1 (file_of north) ∷ choose 2 (1 ∷ 2 ∷ 9 ∷ []) ∷ load 2 (file_of longer) ∷ []))
    ∷ map (λ c. chosen_in (choices_from (record { first = district_of north; second = district_of south }) chosen_by_second (c ∷ [])))
    (load 1 (file_of south) ∷ load 2 (file_of north) ∷ [])
    ≡ (0 ∷ 3 ∷ []) ∷ (0 ∷ 3 ∷ []) ∷ (0 ∷ 0 ∷ []) ∷ []
unfolding answers_to choices_by choices_from choices_after districts_by districts_from
chosen_by_each = refl

-- ---- how office w changes an answer to the other

-- by a load of other tables: of two resources, after which the other may set the second limit
abbrev by_tables : Which → List StationCall
by_tables w = load (office_number w) (file_of (sharing (0 ∷ 0 ∷ []) [])) ∷ limit (office_number (other w)) 2 9 ∷ []

-- by its segments, though its load changes no table: they are those of a fresh station
abbrev pub as_fresh : Roads
as_fresh =
    record {
      years = 1;
      limits = 0 ∷ [];
      greatest = 1 ∷ [];
      strategies = strategy (0 ∷ []) (pos 0) 0 ∷ [];
      pavements = nothing_demanded ∷ [];
      segments = segment 1 1 [] ∷ [];
    }

abbrev by_segments : Which → List StationCall
by_segments w = load (office_number w) (file_of as_fresh) ∷ load (office_number (other w)) (file_of longer) ∷ []

-- what the other is answered with the calls of w, and without
abbrev with_and_without : Which → List StationCall → List (List Answer)
with_and_without w cs = answers_to (other w) cs ∷ answers_to (other w) (without w cs) ∷ []

pub answers :
    map (λ w. with_and_without w (by_tables w) ++ with_and_without w (by_segments w)) (First ∷ Second ∷ [])
    ≡ replicate 2 ((Accepted 0 ∷ []) ∷ (Refused 7 ∷ []) ∷ (Refused 17 ∷ []) ∷ (Accepted 0 ∷ []) ∷ [])
unfolding answers_to
answers = refl

-- and in no other way, where no load of office 1 changes a table and no call of office 2 gets 17, as here: office 1 makes calls of every sort and
-- gets 17 itself, office 2 gets 6, and a load that names no office gets 16
abbrev by_nothing : List StationCall
by_nothing =
    load 1 (file_of longer)
    ∷ load 1 (file_of south)
    ∷ bar 1 1 1
    ∷ limit 1 1 9
    ∷ choose 1 (1 ∷ 2 ∷ 9 ∷ [])
    ∷ call_of 1 (Send (Marker 7))
    ∷ exports 1
    ∷ load 3 (file_of longer)
    ∷ bar 2 9 9
    ∷ bar 2 1 1
    ∷ []

abbrev assumed : Both Held → StationCall → Bool
assumed b c = leaves_tables First b c && not_in_use Second b c

pub conditions :
    throughout assumed fresh_both (by_tables First) ∷ throughout assumed both_have (load 2 (file_of longer) ∷ []) ∷ throughout assumed both_have by_nothing ∷ []
    ≡ false ∷ false ∷ true ∷ []
unfolding answers_to
conditions = refl
