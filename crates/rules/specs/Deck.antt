-- Document 02, request 11: the first cards of an old RAMS deck, for any bytes at all. What they say comes in document 01's units, and each
-- number has the range that it has in the file.
--
-- Read are the title's length, the counts card, and a card for each segment; on a card, the columns that the layout has. All other columns may
-- hold any byte but a line feed. Whatever follows the last segment's card is not read.
--
-- Columns, and rows of the layout, are counted from 1; lines from 0, the title.
use Rattle.std.specs.Prelude.{ℕ, ◌+◌, ◌-◌, ◌*◌, Bool, true, false, ◌&&◌, List, [], ◌∷◌, ◌++◌, leb, ltb, eqb, length, get_or, take, drop, replicate}
use Rattle.std.specs.Prelude.{Option, None, Some}
use Rattle.base.specs.Choice.{pick, only}
use Rattle.base.specs.Over.{all, listed}
use Rattle.base.specs.Text.{up_to, on_from, skipped, value_from}
use Rattle.rules.specs.Answers.{wrong_field, wrong_line, unless, or_later, first_refusal}
use Rattle.rules.specs.District.{most_segments, traffic_at, environment_at, length_at, width_at, segments_of}
use Rattle.rules.specs.Format.{plain_form, slot, most_places, inside, kind_field}
use Rattle.rules.specs.declared.Field.{Field}
use Rattle.rules.specs.declared.Notation.{Notation}
use Rattle.rules.specs.declared.Notation.TheVariants.{Whole, Hundredths, Units}

-- ---- the layout of the cards

pub record Columns : Type 0 where
  pub first : ℕ
  pub last : ℕ
  pub notation : Notation
  pub kind : ℕ
  pub place : ℕ

-- the first column and the last, how the number in them is written, and which number of which kind of the file's records it is
abbrev pub columns : ℕ → ℕ → Notation → ℕ → ℕ → Columns
columns first last notation kind place = record { first = first; last = last; notation = notation; kind = kind; place = place }

unfoldable pub layout : List Columns
layout =
    -- the counts card: segments, strategies, periods used, distress types, highway types
    columns 1 5 Whole 1 0
    ∷ columns 6 10 Whole 1 1
    ∷ columns 16 20 Whole 1 2
    ∷ columns 21 25 Whole 1 3
    ∷ columns 26 30 Whole 1 4
    -- a segment's card: length, width, highway type, traffic, environment
    ∷ columns 1 8 Hundredths 6 length_at
    ∷ columns 9 16 Units 6 width_at
    ∷ columns 17 20 Whole 6 0
    ∷ columns 21 28 Hundredths 6 traffic_at
    ∷ columns 29 36 Hundredths 6 environment_at
    ∷ []

unfoldable pub row : ℕ → Columns
row n = get_or layout (n - 1) (columns 0 0 Whole 0 0)

-- each card has five numbers
abbrev pub per_card : ℕ
per_card = 5

-- how many rows of the layout stand before those of the counts card, and before those of a segment's card
abbrev pub rows_before_counts : ℕ
rows_before_counts = 0

abbrev pub rows_before_segment : ℕ
rows_before_segment = per_card

-- the bytes of a card in these columns
unfoldable pub cut : Columns → List ℕ → List ℕ
cut c card = drop (c.first - 1) (take c.last card)

-- ---- how numbers are written

abbrev pub blank : ℕ
blank = 32

abbrev pub point : ℕ
point = 46

abbrev pub zero_digit : ℕ
zero_digit = 48

-- every byte is b
unfoldable pub nothing_but : ℕ → List ℕ → Bool
nothing_but b bs = eqb (length (skipped b bs)) 0

-- a whole-number field: blanks may stand in front; the rest is digits, at least one, the last in the last column
unfoldable pub whole_in : List ℕ → Option ℕ
whole_in field = pick (nothing_but blank field) None (value_from 0 (skipped blank field))

-- a decimal field: blanks may stand on both sides; at least one digit before the point, none to two behind it. Its parts are what stands before the
-- point, the point with all that follows, what stands between the point and the next blank, and all from that blank on
unfoldable pub before_point : List ℕ → List ℕ
before_point field = up_to point (skipped blank field)

unfoldable pub from_point : List ℕ → List ℕ
from_point field = on_from point (skipped blank field)

unfoldable pub after_point : List ℕ → List ℕ
after_point field = up_to blank (drop 1 (from_point field))

unfoldable pub after_digits : List ℕ → List ℕ
after_digits field = on_from blank (drop 1 (from_point field))

unfoldable pub has_decimal_form : List ℕ → Bool
has_decimal_form field =
    leb 1 (length (before_point field)) && (leb 1 (length (from_point field)) && (leb (length (after_point field)) 2 && nothing_but blank (after_digits field)))

-- in hundredths: its digits without the point, with a 0 for each of the two that is not there, so 12.5 is 1250
unfoldable pub hundredths_digits : List ℕ → List ℕ
hundredths_digits field = before_point field ++ (after_point field ++ drop (length (after_point field)) (zero_digit ∷ zero_digit ∷ []))

unfoldable pub hundredths_in : List ℕ → Option ℕ
hundredths_in field = pick (has_decimal_form field) (value_from 0 (hundredths_digits field)) None

-- in whole units: what stands before the point, where all digits behind it are 0
unfoldable pub units_in : List ℕ → Option ℕ
units_in field = pick (has_decimal_form field && nothing_but zero_digit (after_point field)) (value_from 0 (before_point field)) None

unfoldable pub written : Notation → List ℕ → Option ℕ
written Whole field = whole_in field
written Hundredths field = hundredths_in field
written Units field = units_in field

-- ---- what a card says

-- a number where it is in the range
unfoldable pub only_inside : Field → Option ℕ → Option ℕ
only_inside f None = None
only_inside f (Some v) = only (inside f v) v

-- the file's range of that number, by its kind and place; the counts stand for a district, so that a highway type goes up to the deck's own count
unfoldable pub range_of : List ℕ → Columns → Field
range_of counts c = kind_field counts (slot plain_form c.kind most_places 0) c.place

-- the number of row n on a card, or nothing where its field is badly written or the number is out of its range
unfoldable pub field_on : List ℕ → List ℕ → ℕ → Option ℕ
field_on counts card n = only_inside (range_of counts (row n)) (written (row n).notation (cut (row n) card))

unfoldable pub is_number : Option ℕ → Bool
is_number None = false
is_number (Some v) = true

unfoldable pub or_zero : Option ℕ → ℕ
or_zero None = 0
or_zero (Some v) = v

-- field k of the five of a card, where b rows stand before its own: whether it is good, and its number
unfoldable pub is_good : List ℕ → List ℕ → ℕ → ℕ → Bool
is_good counts card b k = is_number (field_on counts card (b + k))

unfoldable pub number_on : List ℕ → List ℕ → ℕ → ℕ → ℕ
number_on counts card b k = or_zero (field_on counts card (b + k))

-- all five numbers
unfoldable pub numbers_on : List ℕ → List ℕ → ℕ → List ℕ
numbers_on counts card b = listed per_card (number_on counts card b)

-- ---- the deck

abbrev pub line_feed : ℕ
line_feed = 10

abbrev pub per_line : ℕ
per_line = 80

-- the 81 bytes where line n stands, if those before it are lines; fewer where the deck ends
unfoldable pub line_at : List ℕ → ℕ → List ℕ
line_at deck n = take (per_line + 1) (drop (n * (per_line + 1)) deck)

-- the first line feed stands behind 80 characters
unfoldable pub is_line : List ℕ → Bool
is_line line = eqb (length (up_to line_feed line)) per_line && ltb per_line (length line)

-- what refuses a card: its length, and then its fields
unfoldable pub card_refusal : List ℕ → List ℕ → ℕ → ℕ
card_refusal counts line b = unless (is_line line) wrong_line (unless (all per_card (is_good counts line b)) wrong_field 0)

unfoldable pub title_refusal : List ℕ → ℕ
title_refusal deck = unless (is_line (line_at deck 0)) wrong_line 0

-- the counts, which are segments N, strategies S, periods T, distress types D and highway types Y; no range on their card depends on them
abbrev pub no_counts : List ℕ
no_counts = replicate per_card 0

unfoldable pub counts_refusal : List ℕ → ℕ
counts_refusal deck = card_refusal no_counts (line_at deck 1) rows_before_counts

unfoldable pub counts_in : List ℕ → List ℕ
counts_in deck = numbers_on no_counts (line_at deck 1) rows_before_counts

-- of segment i: length, width, highway type, traffic, environment
unfoldable pub segment_refusal : List ℕ → ℕ → ℕ
segment_refusal deck i = card_refusal (counts_in deck) (line_at deck (i + 1)) rows_before_segment

unfoldable pub segment_in : List ℕ → ℕ → List ℕ
segment_in deck i = numbers_on (counts_in deck) (line_at deck (i + 1)) rows_before_segment

-- what refuses a deck: the first of its cards that is refused
unfoldable pub deck_refusal : List ℕ → ℕ
deck_refusal deck = or_later (title_refusal deck) (or_later (counts_refusal deck) (first_refusal (segments_of (counts_in deck)) (segment_refusal deck)))

-- the bytes of the title, the counts and n segments, and the most that are ever read
abbrev pub deck_bytes : ℕ → ℕ
deck_bytes n = (n + 2) * (per_line + 1)

abbrev pub longest_deck : ℕ
longest_deck = deck_bytes most_segments
