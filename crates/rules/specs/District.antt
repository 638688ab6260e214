-- Document 01, "The district and its file": what a district holds.
--
-- A district is a list of numbers, each at a place of its own; the places of what it does not have hold 0. Only this file, Format and File go
-- by places, and Deck by those of a segment's record. Every other rule reads a district by the names below and alters it by `with..`.
--
-- Segments i, strategies j, years t, distress types k, pavement types y and resources r are numbered from 1, here and in all the rules.
-- Strategy 0 is nothing. Records, and the numbers of a record, are counted from 0 (Format, File).
use Rattle.std.specs.Prelude.{ℕ, ◌+◌, ◌-◌, ◌*◌, ◌^◌, Bool, ◌||◌, List, [], ◌∷◌, get_or, set, replicate, ℤ}
use Rattle.base.specs.Choice.{pick}
use Rattle.base.specs.Over.{between}
use Rattle.base.specs.Same.{same}
use Rattle.base.specs.Bytes.{signed}
use Rattle.base.specs.Bits.{is_set, set_bit, clear_bit}

abbrev pub District : Type 0
District = List ℕ

-- ---- how many there may be of each

abbrev pub most_segments : ℕ
most_segments = 64

abbrev pub most_strategies : ℕ
most_strategies = 11

abbrev pub most_years : ℕ
most_years = 10

abbrev pub most_distresses : ℕ
most_distresses = 9

abbrev pub most_pavements : ℕ
most_pavements = 4

abbrev pub most_resources : ℕ
most_resources = 16

-- ---- the places: the counts, then a run for each kind, which begins where the one before it ends

abbrev pub count_places : ℕ
count_places = 6

abbrev pub limits_at : ℕ
limits_at = count_places

abbrev pub limit_place : ℕ → ℕ
limit_place r = limits_at + (r - 1)

abbrev pub greatest_at : ℕ
greatest_at = limits_at + most_resources

abbrev pub greatest_place : ℕ → ℕ
greatest_place k = greatest_at + (k - 1)

-- a row for each distress type with a place for each year
abbrev pub rows_places : ℕ
rows_places = most_years * most_distresses

-- a strategy: the requirements, the gains, rows of percents
abbrev pub gains_at : ℕ
gains_at = most_resources

abbrev pub percents_at : ℕ
percents_at = gains_at + most_distresses

abbrev pub per_strategy : ℕ
per_strategy = percents_at + rows_places

abbrev pub strategies_at : ℕ
strategies_at = greatest_at + most_distresses

abbrev pub strategy_place : ℕ → ℕ
strategy_place j = strategies_at + per_strategy * (j - 1)

-- a pavement type: the overall requirement, rows of minimum ratings
abbrev pub minima_at : ℕ
minima_at = 1

abbrev pub per_pavement : ℕ
per_pavement = minima_at + rows_places

abbrev pub pavements_at : ℕ
pavements_at = strategies_at + per_strategy * most_strategies

abbrev pub pavement_place : ℕ → ℕ
pavement_place y = pavements_at + per_pavement * (y - 1)

-- a segment: pavement type, traffic index, environment index, length, width, bars, the ratings, the leader
abbrev pub traffic_at : ℕ
traffic_at = 1

abbrev pub environment_at : ℕ
environment_at = 2

abbrev pub length_at : ℕ
length_at = 3

abbrev pub width_at : ℕ
width_at = 4

abbrev pub bars_at : ℕ
bars_at = 5

abbrev pub ratings_at : ℕ
ratings_at = 6

abbrev pub leader_at : ℕ
leader_at = ratings_at + most_distresses

abbrev pub per_segment : ℕ
per_segment = leader_at + 1

abbrev pub segments_at : ℕ
segments_at = pavements_at + per_pavement * most_pavements

abbrev pub segment_place : ℕ → ℕ
segment_place i = segments_at + per_segment * (i - 1)

abbrev pub bars_place : ℕ → ℕ
bars_place i = segment_place i + bars_at

abbrev pub rating_place : ℕ → ℕ → ℕ
rating_place i k = segment_place i + ratings_at + (k - 1)

abbrev pub leader_place : ℕ → ℕ
leader_place i = segment_place i + leader_at

abbrev pub district_places : ℕ
district_places = segments_at + per_segment * most_segments

abbrev pub value_at : District → ℕ → ℕ
value_at d place = get_or d place 0

-- ---- what it holds

-- the counts N, S, T, D, Y and R
abbrev pub segments_of : District → ℕ
segments_of d = value_at d 0

abbrev pub strategies_of : District → ℕ
strategies_of d = value_at d 1

abbrev pub years_of : District → ℕ
years_of d = value_at d 2

abbrev pub distresses_of : District → ℕ
distresses_of d = value_at d 3

abbrev pub pavements_of : District → ℕ
pavements_of d = value_at d 4

abbrev pub resources_of : District → ℕ
resources_of d = value_at d 5

-- in whole units
unfoldable pub limit_of : District → ℕ → ℕ
limit_of d r = value_at d (limit_place r)

unfoldable pub greatest_of : District → ℕ → ℕ
greatest_of d k = value_at d (greatest_place k)

-- per mile-foot, in thousandths of a unit
unfoldable pub requirement_of : District → ℕ → ℕ → ℕ
requirement_of d j r = value_at d (strategy_place j + (r - 1))

-- a signed byte
unfoldable pub gain_of : District → ℕ → ℕ → ℤ
gain_of d j k = signed (value_at d (strategy_place j + gains_at + (k - 1)))

-- survival percent
unfoldable pub percent_of : District → ℕ → ℕ → ℕ → ℕ
percent_of d j k t = value_at d (strategy_place j + percents_at + most_years * (k - 1) + (t - 1))

unfoldable pub overall_of : District → ℕ → ℕ
overall_of d y = value_at d (pavement_place y)

unfoldable pub minimum_of : District → ℕ → ℕ → ℕ → ℕ
minimum_of d y k t = value_at d (pavement_place y + minima_at + most_years * (k - 1) + (t - 1))

unfoldable pub pavement_of : District → ℕ → ℕ
pavement_of d i = value_at d (segment_place i)

-- the two indexes, in hundredths
unfoldable pub traffic_of : District → ℕ → ℕ
traffic_of d i = value_at d (segment_place i + traffic_at)

unfoldable pub environment_of : District → ℕ → ℕ
environment_of d i = value_at d (segment_place i + environment_at)

-- in hundredths of a mile
unfoldable pub length_of : District → ℕ → ℕ
length_of d i = value_at d (segment_place i + length_at)

-- in feet
unfoldable pub width_of : District → ℕ → ℕ
width_of d i = value_at d (segment_place i + width_at)

-- a bit for each strategy, the lowest for strategy 1
unfoldable pub bars_of : District → ℕ → ℕ
bars_of d i = value_at d (bars_place i)

unfoldable pub barred_in : District → ℕ → ℕ → Bool
barred_in d i j = is_set (bars_of d i) (j - 1)

-- those of every strategy that there is
abbrev pub all_bars : District → ℕ
all_bars d = 2 ^ strategies_of d - 1

unfoldable pub rating_of : District → ℕ → ℕ → ℕ
rating_of d i k = value_at d (rating_place i k)

-- the segment without which this one gets nothing; 0 for none (document 02, request 8)
unfoldable pub leader_of : District → ℕ → ℕ
leader_of d i = value_at d (leader_place i)

-- ---- the district with one value changed

abbrev pub with_limit : District → ℕ → ℕ → District
with_limit d r limit = set d (limit_place r) limit

abbrev pub with_bar : District → ℕ → ℕ → District
with_bar d i j = set d (bars_place i) (set_bit (bars_of d i) (j - 1))

abbrev pub without_bar : District → ℕ → ℕ → District
without_bar d i j = set d (bars_place i) (clear_bit (bars_of d i) (j - 1))

abbrev pub with_bars : District → ℕ → ℕ → District
with_bars d i bars = set d (bars_place i) bars

abbrev pub with_rating : District → ℕ → ℕ → ℕ → District
with_rating d i k rating = set d (rating_place i k) rating

abbrev pub with_leader : District → ℕ → ℕ → District
with_leader d i leader = set d (leader_place i) leader

-- ---- what a fresh unit holds: no segment, one of everything else, greatest rating 1, and 0 in every other place
unfoldable pub fresh_district : District
fresh_district = set (set (set (set (set (set (replicate district_places 0) 1 1) 2 1) 3 1) 4 1) 5 1) (greatest_place 1) 1

-- ---- document 02, request 10: what two offices share, the counts other than N, the greatest ratings, the strategies and the pavement types

-- by place: the counts behind N, and all from the first greatest rating to the last pavement type
unfoldable pub is_shared : ℕ → Bool
is_shared place = between 1 (count_places - 1) place || between greatest_at (segments_at - 1) place

-- of the numbers from a place on, those that are shared, and 0 for each other
unfoldable pub shared_from : ℕ → List ℕ → List ℕ
shared_from place [] = []
shared_from place (x ∷ xs) = pick (is_shared place) x 0 ∷ shared_from (place + 1) xs

-- the shared tables alone: a district without a segment, whose limits are 0
unfoldable pub shared_tables : District → District
shared_tables d = shared_from 0 d

-- no shared number differs
unfoldable pub same_tables : District → District → Bool
same_tables d e = same (shared_tables d) (shared_tables e)
