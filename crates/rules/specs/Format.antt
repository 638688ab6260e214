-- Document 01, "The district and its file": the records in order, and how many bytes and what range each of their numbers has.
-- A number that the district does not have takes no byte of the file, and its place in the district holds 0.
-- A slot is a record of the file: the file's form, its kind, how many numbers it may have, and which of its kind it is, from 0. A field is one
-- of its numbers.
use Rattle.std.specs.Prelude.{ℕ, ◌+◌, ◌-◌, ◌/◌, ◌%◌, ◌^◌, min, Bool, true, ◌||◌, List, [], ◌∷◌, leb, ltb, eqb, get_or}
use Rattle.base.specs.Choice.{pick}
use Rattle.base.specs.Over.{between}
use Rattle.rules.specs.District.{District, most_segments, most_strategies, most_years, most_distresses, most_pavements, most_resources, count_places, gains_at, percents_at, per_strategy, minima_at, per_pavement, length_at, width_at, bars_at, ratings_at, leader_at, per_segment, segments_of, strategies_of, years_of, distresses_of, pavements_of, resources_of, greatest_of}
use Rattle.rules.specs.declared.Field.{Field}

-- a number of w bytes, from lo to hi; where hi < lo it is a signed byte, whose negative numbers are the bytes from 128 on
abbrev pub number : ℕ → ℕ → ℕ → Field
number w lo hi = record { width = w; lo = lo; hi = hi }

-- a number that the district does not have
abbrev pub absent : Field
absent = number 0 0 0

-- x is from lo to hi; a signed byte is from 0 to hi, or from lo to 255
unfoldable pub ranged : ℕ → ℕ → ℕ → Bool
ranged lo hi x = pick (leb lo hi) (between lo hi x) (leb x hi || between lo 255 x)

abbrev pub inside : Field → ℕ → Bool
inside f x = ranged f.lo f.hi x

-- ---- the two forms of a file (document 02, request 8), each named by the kind of its first record: without leaders, and with them

abbrev pub plain_form : ℕ
plain_form = 1

abbrev pub leader_form : ℕ
leader_form = 8

-- ---- the records in order

pub record Slot : Type 0 where
  pub form : ℕ
  pub kind : ℕ
  pub places : ℕ
  pub nth : ℕ

abbrev pub slot : ℕ → ℕ → ℕ → ℕ → Slot
slot form kind places nth = record { form = form; kind = kind; places = places; nth = nth }

-- records are counted from 0: the form's kind, kinds 2 and 3, then those of kind 4, of kind 5 and of kind 6, and kind 7
abbrev pub first_strategy_record : ℕ
first_strategy_record = 3

abbrev pub first_pavement_record : ℕ
first_pavement_record = first_strategy_record + most_strategies

abbrev pub first_segment_record : ℕ
first_segment_record = first_pavement_record + most_pavements

abbrev pub last_record : ℕ
last_record = first_segment_record + most_segments

abbrev pub file_records : ℕ
file_records = last_record + 1

abbrev pub slot_of : ℕ → ℕ → Slot
slot_of form n =
    pick (eqb n 0) (slot form form count_places 0)
    (pick (eqb n 1) (slot form 2 most_resources 0)
    (pick (eqb n 2) (slot form 3 most_distresses 0)
    (pick (ltb n first_pavement_record) (slot form 4 per_strategy (n - first_strategy_record))
    (pick (ltb n first_segment_record) (slot form 5 per_pavement (n - first_pavement_record))
    (pick (ltb n last_record) (slot form 6 per_segment (n - first_segment_record))
    (slot form 7 0 0))))))

-- no record has more places than a strategy
abbrev pub most_places : ℕ
most_places = per_strategy

-- kind 4 stands S times, kind 5 Y times, kind 6 N times, each other once
abbrev pub present : District → Slot → Bool
present d s =
    pick (eqb s.kind 4) (ltb s.nth (strategies_of d))
    (pick (eqb s.kind 5) (ltb s.nth (pavements_of d))
    (pick (eqb s.kind 6) (ltb s.nth (segments_of d))
    true))

-- ---- the numbers of each kind; n counts a record's places from 0

-- the first record: the six counts, N, S, T, D, Y and R
abbrev pub least_counts : List ℕ
least_counts = 0 ∷ 1 ∷ 1 ∷ 1 ∷ 1 ∷ 1 ∷ []

abbrev pub most_counts : List ℕ
most_counts = most_segments ∷ most_strategies ∷ most_years ∷ most_distresses ∷ most_pavements ∷ most_resources ∷ []

abbrev pub count_field : ℕ → Field
count_field n = number 1 (get_or least_counts n 0) (get_or most_counts n 0)

-- kind 2: a limit for each resource
abbrev pub limit_field : District → ℕ → Field
limit_field d n = pick (ltb n (resources_of d)) (number 4 0 999_999_999) absent

-- kind 3: a greatest rating for each distress type
abbrev pub greatest_field : District → ℕ → Field
greatest_field d n = pick (ltb n (distresses_of d)) (number 1 1 50) absent

-- a row for each distress type with a byte for each year; each row has places for the most years
abbrev pub rows_field : District → ℕ → ℕ → Field
rows_field d most n = pick (ltb (n / most_years) (distresses_of d)) (pick (ltb (n % most_years) (years_of d)) (number 1 0 most) absent) absent

-- kind 4: a requirement for each resource, a gain for each distress type (byte 206 is −50), rows of percents
abbrev pub strategy_field : District → ℕ → Field
strategy_field d n =
    pick (ltb n gains_at) (pick (ltb n (resources_of d)) (number 4 0 999_999) absent)
    (pick (ltb n percents_at) (pick (ltb (n - gains_at) (distresses_of d)) (number 1 206 50) absent)
    (rows_field d 100 (n - percents_at)))

-- kind 5: the overall requirement, rows of minimum ratings
abbrev pub pavement_field : District → ℕ → Field
pavement_field d n = pick (eqb n 0) (number 2 0 450) (rows_field d 50 (n - minima_at))

-- a rating, for each distress type
abbrev pub rating_field : District → ℕ → Field
rating_field d n = pick (ltb n (distresses_of d)) (number 1 0 (greatest_of d (n + 1))) absent

-- in the form with leaders, the number of a segment before this one, of which there are `nth`, or 0
abbrev pub leader_field : Slot → Field
leader_field s = pick (eqb s.form leader_form) (number 1 0 s.nth) absent

-- kind 6: pavement type, the two indexes, length, width, a mask of bars with no bit past S of its 16, ratings, the leader
abbrev pub segment_field : District → Slot → ℕ → Field
segment_field d s n =
    pick (eqb n 0) (number 1 1 (pavements_of d))
    (pick (ltb n length_at) (number 2 100 1_000)
    (pick (eqb n length_at) (number 2 1 9_999)
    (pick (eqb n width_at) (number 1 1 200)
    (pick (eqb n bars_at) (number 2 0 (2 ^ min (strategies_of d) 16 - 1))
    (pick (ltb n leader_at) (rating_field d (n - ratings_at))
    (leader_field s))))))

-- the range of a limit of resource r, and of a rating of distress k
abbrev pub limit_range : District → ℕ → Field
limit_range d r = limit_field d (r - 1)

abbrev pub rating_range : District → ℕ → Field
rating_range d k = rating_field d (k - 1)

abbrev pub kind_field : District → Slot → ℕ → Field
kind_field d s n =
    pick (eqb s.kind s.form) (count_field n)
    (pick (eqb s.kind 2) (limit_field d n)
    (pick (eqb s.kind 3) (greatest_field d n)
    (pick (eqb s.kind 4) (strategy_field d n)
    (pick (eqb s.kind 5) (pavement_field d n)
    (pick (eqb s.kind 6) (segment_field d s n)
    absent)))))

-- the n-th number of a record; absent where the file does not have the record
unfoldable pub field_at : District → Slot → ℕ → Field
field_at d s n = pick (present d s) (kind_field d s n) absent
