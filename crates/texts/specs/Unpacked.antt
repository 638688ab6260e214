-- docs/FILE.md, "The card with one thing changed": files, changed in a byte or two, and what unpack prints for them, computed; and
-- files for what that page says and its examples do not show.
use Rattle.std.specs.Prelude.{ℕ, ◌-◌, refl, take, set, replicate}
use mathlib.Core.List.{List, [], ◌∷◌, ◌++◌}
use Rattle.input.specs.Reading.{most_read}
use Rattle.rules.specs.Marked.{card}
use Rattle.rules.specs.Converted.{card_led, card_up}
use Rattle.texts.specs.Results.{Unpack, lines, printed_for, Exchange, ◌⇒◌, Agree}
use Rattle.texts.specs.Packed.{card_lines, unled_lines, pair_lines, pair_file}

-- the card's file with another n-th byte
abbrev pub with_byte : ℕ → ℕ → List ℕ
with_byte n b = set card (n - 1) b

abbrev pub files : List Exchange
files =
    Unpack card ⇒ lines card_lines
    ∷ Unpack card_up ⇒ lines unled_lines
    ∷ Unpack (with_byte 83 0) ⇒ lines (set card_lines 7 "segment 1 100 100 200 20 0 0 # segment 2")
    ∷ Unpack (with_byte 83 20) ⇒ lines (set card_lines 7 "segment 1 100 100 200 20 0 20 # segment 2")
    ∷ Unpack (with_byte 32 250) ⇒ lines (set card_lines 3 "strategy 1000 -6 80 40 # strategy 1")
    -- cut short
    ∷ Unpack [] ⇒ lines ("refused 1" ∷ "record 1 (district): the file ends within it" ∷ [])
    -- one that ends before its first kind says no form
    ∷ Unpack (take 3 card_up) ⇒ lines ("refused 1" ∷ "record 1 (district): the file ends within it" ∷ [])
    ∷ Unpack (take 4 card_up) ⇒ lines ("refused 1" ∷ "record 1 (led-district): the file ends within it" ∷ [])
    ∷ Unpack (take 21 card) ⇒ lines ("refused 1" ∷ "record 3 (greatest): the file ends within it" ∷ [])
    ∷ Unpack (take 33 card) ⇒ lines ("refused 1" ∷ "record 4 (strategy 1): the file ends within it" ∷ [])
    ∷ Unpack (take 33 (with_byte 32 60)) ⇒ lines ("refused 1" ∷ "record 4 (strategy 1): the file ends within it" ∷ [])
    -- another kind or length
    ∷ Unpack (with_byte 3 2) ⇒ lines ("refused 2" ∷ "record 1: kind 2 stands where 1 is due" ∷ [])
    ∷ Unpack (with_byte 3 8) ⇒ lines ("refused 3" ∷ "record 7 (segment 1): 11 bytes stand where 12 are due" ∷ [])
    ∷ Unpack (with_byte 26 9) ⇒ lines ("refused 2" ∷ "record 4: kind 9 stands where 4 is due" ∷ [])
    ∷ Unpack (with_byte 24 8) ⇒ lines ("refused 3" ∷ "record 4 (strategy 1): 8 bytes stand where 7 are due" ∷ [])
    ∷ Unpack (set (with_byte 24 8) 25 9) ⇒ lines ("refused 2" ∷ "record 4: kind 9 stands where 4 is due" ∷ [])
    -- a number out of its range
    ∷ Unpack (with_byte 5 65) ⇒ lines ("refused 4" ∷ "record 1 (district), number 1: 65 is not 0 to 64" ∷ [])
    ∷ Unpack (with_byte 18 255) ⇒ lines ("refused 4" ∷ "record 2 (limits), number 1: 4278190210 is not 0 to 999999999" ∷ [])
    ∷ Unpack (with_byte 32 60) ⇒ lines ("refused 4" ∷ "record 4 (strategy 1), number 2: 60 is not -50 to 50" ∷ [])
    ∷ Unpack (with_byte 32 150) ⇒ lines ("refused 4" ∷ "record 4 (strategy 1), number 2: -106 is not -50 to 50" ∷ [])
    ∷ Unpack (with_byte 66 4) ⇒ lines ("refused 4" ∷ "record 7 (segment 1), number 6: 4 is not 0 to 3" ∷ [])
    ∷ Unpack (with_byte 83 21) ⇒ lines ("refused 4" ∷ "record 8 (segment 2), number 7: 21 is not 0 to 20" ∷ [])
    ∷ Unpack (set card_led 84 2) ⇒ lines ("refused 4" ∷ "record 8 (segment 2), number 8: 2 is not 0 to 1" ∷ [])
    -- bytes behind the end, of those that are read
    ∷ Unpack (card ++ 0 ∷ []) ⇒ lines ("refused 5" ∷ "1 bytes follow the end" ∷ [])
    ∷ Unpack (take most_read (card ++ replicate 10_000 0)) ⇒ lines ("refused 5" ∷ "4009 bytes follow the end" ∷ [])
    ∷ []

pub files_unpacked : Agree files
unfolding printed_for
files_unpacked = refl

-- ---- what the page says and its examples do not show

abbrev pub further : List Exchange
further =
    Unpack pair_file ⇒ lines pair_lines
    -- records are counted of those that stand in the file
    ∷ Unpack (take 59 pair_file) ⇒ lines ("refused 1" ∷ "record 6 (end): the file ends within it" ∷ [])
    -- kind, length and number have all their bytes
    ∷ Unpack (with_byte 27 1) ⇒ lines ("refused 2" ∷ "record 4: kind 260 stands where 4 is due" ∷ [])
    ∷ Unpack (with_byte 25 1) ⇒ lines ("refused 3" ∷ "record 4 (strategy 1): 263 bytes stand where 7 are due" ∷ [])
    ∷ Unpack (with_byte 51 2) ⇒ lines ("refused 4" ∷ "record 6 (pavement 1), number 1: 512 is not 0 to 450" ∷ [])
    -- of two numbers out of range the first
    ∷ Unpack (set (with_byte 32 60) 32 101) ⇒ lines ("refused 4" ∷ "record 4 (strategy 1), number 2: 60 is not -50 to 50" ∷ [])
    ∷ []

pub further_unpacked : Agree further
unfolding printed_for
further_unpacked = refl
