-- Decks in the report's layout (document 02, request 11), computed from these rules.
use Rattle.std.specs.Prelude.{ℕ, List, [], ◌∷◌, ◌++◌, map, ◌≡◌, refl, take, drop, replicate}
use Prim.Native.String.{String}
use Rattle.std.specs.Prelude.{None, Some}
use Rattle.base.specs.Over.{all, listed_from, listed}
use Rattle.base.specs.Text.{text, up_to, on_from, skipped, value_from}
use Rattle.rules.specs.Answers.{first_refusal}
use Rattle.rules.specs.District.{segments_of}
use Rattle.rules.specs.Format.{ranged}
use Rattle.rules.specs.Deck.{layout, row, rows_before_segment, rows_before_counts, no_counts, cut, nothing_but, whole_in, before_point, from_point, after_point, after_digits, has_decimal_form, hundredths_digits, hundredths_in, units_in, written, only_inside, range_of, field_on, is_number, or_zero, is_good, number_on, numbers_on, line_at, is_line, card_refusal, title_refusal, counts_refusal, counts_in, segment_refusal, segment_in, deck_refusal}

-- ---- fields

-- blanks in front, zeros in front; a number not up to the last column, a blank between digits, no digit, signs, a tab, the bytes before 0 and
-- behind 9, a point; 40 digits
pub wholes :
    map whole_in
    (text "   12" ∷ text "00064" ∷ text "  12 " ∷ text "  1 2" ∷ text "     " ∷ text "   -1" ∷ text "   +1" ∷ text "  \t12" ∷ text "   1/" ∷ text "   1:" ∷ text "  12."
    ∷ text "0000000000000000000000000000000000000012" ∷ text "9999999999999999999999999999999999999999" ∷ [])
    ≡ Some 12 ∷ Some 64 ∷ None ∷ None ∷ None ∷ None ∷ None ∷ None ∷ None ∷ None ∷ None ∷ Some 12 ∷ Some 9999999999999999999999999999999999999999 ∷ []
unfolding text skipped value_from nothing_but whole_in
wholes = refl

-- no digit behind the point, one, two, none before it, three behind it, no point, two points, blanks between, another byte behind the point, a
-- comma for it, signs, a tab
pub decimals :
    map hundredths_in
    (text " 12.  " ∷ text "12.5" ∷ text "012.05 " ∷ text " .5" ∷ text "12.500" ∷ text "125" ∷ text "1.2." ∷ text "1 2.5" ∷ text "12 .5" ∷ text "12. 5" ∷ text "12.5 0" ∷ text "12.x" ∷ text "12,5" ∷ text "+12.5" ∷ text "-12.5" ∷ text "\t12.5" ∷ [])
    ≡ Some 1200 ∷ Some 1250 ∷ Some 1205 ∷ replicate 13 None
unfolding text up_to on_from skipped value_from nothing_but before_point from_point after_point after_digits has_decimal_form hundredths_digits hundredths_in
decimals = refl

-- a width
pub feet :
    map units_in (text "12." ∷ text "12.0" ∷ text " 12.00 " ∷ text "12.5" ∷ text "12.01" ∷ text "12" ∷ text "12.000" ∷ [])
    ≡ Some 12 ∷ Some 12 ∷ Some 12 ∷ None ∷ None ∷ None ∷ None ∷ []
unfolding text up_to on_from skipped value_from nothing_but before_point from_point after_point after_digits has_decimal_form units_in
feet = refl

-- ---- cards

-- a text with blanks behind it up to 80 characters, and the line feed
unfoldable pub line : String → List ℕ
line s = take 80 (text s ++ replicate 80 32) ++ (10 ∷ [])

-- 65 segments, 0 and 12 strategies, 0 and 11 periods, 0 and 10 distress types, 0 and 5 highway types; a digit in the first column of each field;
-- and none of these
unfoldable pub counts_cards : List (List ℕ)
unfolding line
counts_cards =
    (line "   65   11        10    9    4")
    ∷ (line "   64    0        10    9    4")
    ∷ (line "   64   12        10    9    4")
    ∷ (line "   64   11         0    9    4")
    ∷ (line "   64   11        11    9    4")
    ∷ (line "   64   11        10    0    4")
    ∷ (line "   64   11        10   10    4")
    ∷ (line "   64   11        10    9    0")
    ∷ (line "   64   11        10    9    5")
    ∷ (line "1   1   11        10    9    4")
    ∷ (line "   641  11        10    9    4")
    ∷ (line "   64   11     1  10    9    4")
    ∷ (line "   64   11        101   9    4")
    ∷ (line "   64   11        10    91   4")
    ∷ (line "   64   11        10    9    4")
    ∷ []

-- below and above each range, where there are 2 highway types; a width that is not whole, a digit in the first column of the type, 40 digits; and
-- none of these
unfoldable pub segment_cards : List (List ℕ)
unfolding line
segment_cards =
    (line "    0.00    20.0   1    1.00    1.00")
    ∷ (line "  100.00    20.0   1    1.00    1.00")
    ∷ (line "    1.00     0.0   1    1.00    1.00")
    ∷ (line "    1.00    201.   1    1.00    1.00")
    ∷ (line "    1.00    20.0   0    1.00    1.00")
    ∷ (line "    1.00    20.0   3    1.00    1.00")
    ∷ (line "    1.00    20.0   1    0.99    1.00")
    ∷ (line "    1.00    20.0   1   10.01    1.00")
    ∷ (line "    1.00    20.0   1    1.00    0.99")
    ∷ (line "    1.00    20.0   1    1.00   10.01")
    ∷ (line "    1.00    20.5   1    1.00    1.00")
    ∷ (line "    1.00    20.01  1    1.00    1.00")
    ∷ (line "1111111111111111111111111111111111111111")
    ∷ (line "    1.00    20.0   2    1.00    1.00")
    ∷ []

pub refused_cards :
    map (λ (card : List ℕ). card_refusal no_counts card rows_before_counts) counts_cards ++ map (λ (card : List ℕ). card_refusal (1 ∷ 1 ∷ 1 ∷ 1 ∷ 2 ∷ []) card rows_before_segment) segment_cards
    ≡ replicate 14 18 ++ (0 ∷ replicate 13 18 ++ (0 ∷ []))
unfolding line counts_cards segment_cards text up_to on_from skipped value_from all ranged layout row cut nothing_but whole_in before_point from_point after_point after_digits has_decimal_form hundredths_digits hundredths_in units_in written only_inside range_of field_on is_number is_good is_line card_refusal
refused_cards = refl

-- ---- decks

-- what refuses a deck, its counts, and its segments
unfoldable pub deck_of : List ℕ → List (List ℕ)
deck_of deck = (deck_refusal deck ∷ []) ∷ counts_in deck ∷ listed (segments_of (counts_in deck)) (segment_in deck)

-- a text with blanks behind it up to 78 characters, any two bytes, and the line feed
unfoldable pub any : String → List ℕ
any s = take 78 (text s ++ replicate 80 32) ++ (0 ∷ 255 ∷ 10 ∷ [])

-- the least numbers and the greatest; columns 11 to 15, those from 31 on and those from 37 on hold anything, and no card behind the segments is
-- read, nor need there be one; a title of blanks; numbers that begin in their first column, and traffic that is not environment
pub read_decks :
    deck_of (line "TITLE" ++ (line "    0    1         1    1    1" ++ text "short\n"))
    ++ deck_of (any "" ++ (any "    1    1         1    1    1" ++ any "    1.00    20.0   1    1.00    1.00"))
    ++ deck_of (line "TITLE" ++ (line "    3   11?????   10    9    4????" ++ (line "    0.01      1.   1    1.00      1.X1" ++ (line "   99.99   200.0   4   10.00     10." ++ (line "12.34   20.     000110.00   9.99    X" ++ text "1")))))
    ≡ (0 ∷ []) ∷ (0 ∷ 1 ∷ 1 ∷ 1 ∷ 1 ∷ [])
    ∷ (0 ∷ []) ∷ (1 ∷ 1 ∷ 1 ∷ 1 ∷ 1 ∷ []) ∷ (100 ∷ 20 ∷ 1 ∷ 100 ∷ 100 ∷ [])
    ∷ (0 ∷ []) ∷ (3 ∷ 11 ∷ 10 ∷ 9 ∷ 4 ∷ []) ∷ (1 ∷ 1 ∷ 1 ∷ 100 ∷ 100 ∷ []) ∷ (9999 ∷ 200 ∷ 4 ∷ 1000 ∷ 1000 ∷ []) ∷ (1234 ∷ 20 ∷ 1 ∷ 1000 ∷ 999 ∷ []) ∷ []
unfolding line any deck_of text up_to on_from skipped value_from all listed_from ranged first_refusal layout row cut nothing_but whole_in before_point from_point after_point after_digits has_decimal_form hundredths_digits hundredths_in units_in written only_inside range_of field_on is_number or_zero is_good number_on numbers_on line_at is_line card_refusal title_refusal counts_refusal counts_in segment_refusal segment_in deck_refusal
read_decks = refl

unfoldable pub short : List ℕ → List ℕ
short card = drop 1 card

-- no byte; the title too short, and too long, before counts that are wrong; counts that are wrong and too short; a line feed inside the title,
-- before counts that are wrong and before good ones, and another byte in the line feed's place; counts that are wrong before a segment that is too
-- short; a segment too short before one that is wrong, and the other way round; a type above the deck's own 2; no segment; a line feed among
-- the 80 characters; the last without its line feed
pub refused_decks :
    map deck_refusal
    ([]
    ∷ (short (line "TITLE") ++ line "")
    ∷ (32 ∷ line "TITLE" ++ line "")
    ∷ (line "TITLE" ++ short (line ""))
    ∷ (line "TI\nTLE" ++ line "")
    ∷ (line "TI\nTLE" ++ line "    0    1         1    1    2")
    ∷ (take 80 (line "TITLE") ++ (88 ∷ line "    0    1         1    1    2"))
    ∷ (line "TITLE" ++ (line "    1   12         1    1    2" ++ short (line "    1.00    20.0   1    1.00    1.00")))
    ∷ (line "TITLE" ++ (line "    2   11?????   10    9    4" ++ (short (line "    1.00    20.0   1    1.00    1.00") ++ line "")))
    ∷ (line "TITLE" ++ (line "    2   11?????   10    9    4" ++ (line "" ++ short (line "    1.00    20.0   1    1.00    1.00"))))
    ∷ (line "TITLE" ++ (line "    1    1         1    1    2" ++ line "    1.00    20.0   3    1.00    1.00"))
    ∷ (line "TITLE" ++ line "    1    1         1    1    2")
    ∷ (line "TITLE" ++ (line "    1    1         1    1    2" ++ line "    1.00    20.0   1    1.00    1.00\n"))
    ∷ take 242 (line "TITLE" ++ (line "    1    1         1    1    2" ++ line "    1.00    20.0   1    1.00    1.00"))
    ∷ [])
    ≡ 19 ∷ 19 ∷ 19 ∷ 19 ∷ 19 ∷ 19 ∷ 19 ∷ 18 ∷ 19 ∷ 18 ∷ 18 ∷ 19 ∷ 19 ∷ 19 ∷ []
unfolding line short text up_to on_from skipped value_from all listed_from ranged first_refusal layout row cut nothing_but whole_in before_point from_point after_point after_digits has_decimal_form hundredths_digits hundredths_in units_in written only_inside range_of field_on is_number or_zero is_good number_on numbers_on line_at is_line card_refusal title_refusal counts_refusal counts_in segment_refusal deck_refusal
refused_decks = refl
