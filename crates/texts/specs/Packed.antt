-- docs/FILE.md, "The test card" and "The card with one thing changed": texts of the card's district and what pack prints for them, computed;
-- and texts for what that page says and its examples do not show.
use Rattle.std.specs.Prelude.{ℕ, zero, suc, ◌+◌, ◌-◌, ◌≡◌, refl, eqb, length, take, set, replicate}
use Prim.Native.String.{String}
use mathlib.Core.List.{List, [], ◌∷◌, ◌++◌, map}
use Rattle.base.specs.Choice.{pick}
use Rattle.base.specs.Text.{text}
use Rattle.rules.specs.Marked.{card}
use Rattle.rules.specs.Converted.{card_led, card_up}
use Rattle.rules.specs.Writer.{each}
use Rattle.texts.specs.Reading.{read_text}
use Rattle.texts.specs.Results.{Pack, lines, printed_for, Exchange, ◌⇒◌, Agree}

-- as unpack prints it, in the form without leaders
abbrev pub card_lines : List String
card_lines =
    "district 2 2 2 1 1 1 # segments, strategies, years, distress types, pavement types, resources"
    ∷ "limits 130"
    ∷ "greatest 20"
    ∷ "strategy 1000 5 80 40 # strategy 1"
    ∷ "strategy 3000 15 90 70 # strategy 2"
    ∷ "pavement 0 0 0 # pavement 1"
    ∷ "segment 1 100 100 100 20 0 5 # segment 1"
    ∷ "segment 1 100 100 200 20 0 15 # segment 2"
    ∷ "end"
    ∷ []

-- and in the form with leaders, those of its two segments given
abbrev pub led_lines : String → String → List String
led_lines first second =
    set
    (set
    (set card_lines 0 "led-district 2 2 2 1 1 1 # segments, strategies, years, distress types, pavement types, resources")
    6 first)
    7 second

abbrev pub unled_lines : List String
unled_lines = led_lines "segment 1 100 100 100 20 0 5 0 # segment 1" "segment 1 100 100 200 20 0 15 0 # segment 2"

-- as an office might write it
abbrev pub office_lines : List String
office_lines =
    "# Test card. Dollars in thousands."
    ∷ "district  2 2 2  1 1 1      # 2 segments, 2 strategies, 2 years; cracking; asphalt; money"
    ∷ ""
    ∷ "limits    130"
    ∷ "greatest  20                # cracking"
    ∷ ""
    ∷ "#         money  gain  left after 1 and 2 years"
    ∷ "strategy  1000      5  80 40    # 1 seal"
    ∷ "strategy  3000     15  90 70    # 2 overlay"
    ∷ ""
    ∷ "pavement  0  0 0            # asphalt: nothing is demanded"
    ∷ ""
    ∷ "#         type traffic environment  miles feet bars  cracking"
    ∷ "segment   1    100     100          0100  20   0      5    # 1 Mill Road"
    ∷ "segment   1    100     100          0200  20   0     15    # 2 River Road"
    ∷ "end"
    ∷ []

abbrev pub card_text : List ℕ
card_text = lines card_lines

-- with another byte for each space, with a carriage return before each line feed, and without the last line feed
abbrev pub spaced_by : ℕ → List ℕ
spaced_by blank = map (λ b. pick (eqb b 32) blank b) card_text

abbrev pub carriage_returned : List ℕ
carriage_returned = each (λ b. pick (eqb b 10) (13 ∷ 10 ∷ []) (b ∷ [])) card_text

abbrev pub unended : List ℕ
unended = lines (take 8 card_lines) ++ text "end"

abbrev pub texts : List Exchange
texts =
    Pack (lines unled_lines) ⇒ card_up
    ∷ Pack (lines (led_lines "segment 1 100 100 100 20 0 5 0" "segment 1 100 100 200 20 0 15 1")) ⇒ card_led
    -- the empty text, and two empty lines
    ∷ Pack [] ⇒ lines ("line 1: the end is missing ('district' is due)" ∷ [])
    ∷ Pack (10 ∷ 10 ∷ []) ⇒ lines ("line 3: the end is missing ('district' is due)" ∷ [])
    -- no text, but a file; a byte order mark
    ∷ Pack card ⇒ lines ("line 1: '????????????????????..' is not the word due ('district')" ∷ [])
    ∷ Pack (239 ∷ 187 ∷ 191 ∷ card_text) ⇒ lines ("line 1: '???district' is not the word due ('district')" ∷ [])
    -- a word of the first and the last byte that are shown, between the two beside them
    ∷ Pack (31 ∷ 33 ∷ 126 ∷ 127 ∷ []) ⇒ lines ("line 1: '?!~?' is not the word due ('district')" ∷ [])
    -- a leader that is not below its segment
    ∷ Pack (lines (led_lines "segment 1 100 100 100 20 0 5 1" "segment 1 100 100 200 20 0 15 0")) ⇒ lines ("line 7: 1 is not 0 to 0" ∷ [])
    ∷ Pack (lines (led_lines "segment 1 100 100 100 20 0 5 0" "segment 1 100 100 200 20 0 15 2")) ⇒ lines ("line 8: 2 is not 0 to 1" ∷ [])
    -- a byte more than the longest text
    ∷ Pack (card_text ++ replicate (65_537 - length card_text) 32) ⇒ lines ("the text is longer than 65536 bytes" ∷ [])
    ∷ []

pub texts_packed : Agree texts
unfolding printed_for
texts_packed = refl

-- ---- the card with one thing changed

-- with another n-th line
abbrev pub with_line : ℕ → String → List ℕ
with_line n line = lines (set card_lines (n - 1) line)

abbrev pub changed : List Exchange
changed =
    -- the first line
    Pack (with_line 1 "District 2 2 2 1 1 1") ⇒ lines ("line 1: 'District' is not the word due ('district')" ∷ [])
    ∷ Pack (with_line 1 "led-district 2 2 2 1 1 1") ⇒ lines ("line 7: a number is missing (7 of 8)" ∷ [])
    ∷ Pack (with_line 1 "district 3 2 2 1 1 1") ⇒ lines ("line 9: 'end' is not the word due ('segment')" ∷ [])
    ∷ Pack (with_line 1 "district 1 2 2 1 1 1") ⇒ lines ("line 8: 'segment' is not the word due ('end')" ∷ [])
    ∷ Pack (with_line 1 "district 2 2 2 1 1") ⇒ lines ("line 1: a number is missing (5 of 6)" ∷ [])
    ∷ Pack (with_line 1 "district 65 2 2 1 1 one") ⇒ lines ("line 1: 65 is not 0 to 64" ∷ [])
    -- limits: how numbers are written, and their range
    ∷ Pack (with_line 2 "limits 130 131") ⇒ lines ("line 2: a number too many (1 are due)" ∷ [])
    ∷ Pack (with_line 2 "limits 1000000000") ⇒ lines ("line 2: 1000000000 is not 0 to 999999999" ∷ [])
    ∷ Pack (with_line 2 "limits 100000000000000000000") ⇒ lines ("line 2: '10000000000000000000..' is not a number" ∷ [])
    ∷ Pack (with_line 2 "limits 99999999999999999999") ⇒ lines ("line 2: 99999999999999999999 is not 0 to 999999999" ∷ [])
    ∷ Pack (with_line 2 "limits -99999999999999999999") ⇒ lines ("line 2: -99999999999999999999 is not 0 to 999999999" ∷ [])
    ∷ Pack (with_line 2 "limits 000000000000000000130") ⇒ lines ("line 2: '00000000000000000013..' is not a number" ∷ [])
    ∷ Pack (with_line 2 "limits +130") ⇒ lines ("line 2: '+130' is not a number" ∷ [])
    ∷ Pack (with_line 2 "limits 130.5") ⇒ lines ("line 2: '130.5' is not a number" ∷ [])
    ∷ Pack (with_line 2 "limits -") ⇒ lines ("line 2: '-' is not a number" ∷ [])
    ∷ Pack (with_line 2 "limits -0") ⇒ set card 14 0
    -- greatest: a later range follows from it
    ∷ Pack (with_line 3 "greatest 0") ⇒ lines ("line 3: 0 is not 1 to 50" ∷ [])
    ∷ Pack (with_line 3 "greatest 0051") ⇒ lines ("line 3: 0051 is not 1 to 50" ∷ [])
    ∷ Pack (with_line 3 "greatest 10") ⇒ lines ("line 8: 15 is not 0 to 10" ∷ [])
    -- strategy: signed numbers, and the words due
    ∷ Pack (with_line 4 "strategy 1000 206 80 40") ⇒ lines ("line 4: 206 is not -50 to 50" ∷ [])
    ∷ Pack (with_line 4 "strategy 1000 -51 80 40") ⇒ lines ("line 4: -51 is not -50 to 50" ∷ [])
    ∷ Pack (with_line 4 "strategy 1000 -06 80 40") ⇒ set card 31 250
    ∷ Pack (with_line 4 "strategy 1000 5 101") ⇒ lines ("line 4: 101 is not 0 to 100" ∷ [])
    ∷ Pack (with_line 4 "stratgy 1000 5 80 40") ⇒ lines ("line 4: 'stratgy' is not the word due ('strategy')" ∷ [])
    -- what is wrong with a number comes before one too many
    ∷ Pack (with_line 5 "strategy 3000 51 90 70 x") ⇒ lines ("line 5: 51 is not -50 to 50" ∷ [])
    ∷ Pack (with_line 5 "strategy 3000 15 90 70 x") ⇒ lines ("line 5: a number too many (4 are due)" ∷ [])
    -- segment: the bars
    ∷ Pack (with_line 7 "segment 1 100 100 1.00 20 0 5") ⇒ lines ("line 7: '1.00' is not a number" ∷ [])
    ∷ Pack (with_line 7 "segment 1 100 100 100 20 4 5") ⇒ lines ("line 7: 4 is not 0 to 3" ∷ [])
    -- the end
    ∷ Pack (with_line 9 "end 0") ⇒ lines ("line 9: a number too many (0 are due)" ∷ [])
    ∷ Pack (with_line 9 "") ⇒ lines ("line 10: the end is missing ('end' is due)" ∷ [])
    ∷ Pack (lines (take 8 card_lines)) ⇒ lines ("line 9: the end is missing ('end' is due)" ∷ [])
    ∷ Pack (lines (card_lines ++ "thank you" ∷ [])) ⇒ lines ("line 10: something follows the end" ∷ [])
    ∷ []

pub changed_packed : Agree changed
unfolding printed_for
changed_packed = refl

-- ---- other texts of the card's district

abbrev pub card_texts : List (List ℕ)
card_texts =
    lines office_lines
    ∷ spaced_by 9
    ∷ carriage_returned
    ∷ unended
    -- the longest text
    ∷ (card_text ++ replicate (65_536 - length card_text) 32)
    -- twenty digits, a comment that ends a word, a line behind the end
    ∷ with_line 2 "limits 00000000000000000130"
    ∷ with_line 7 "segment 1 100 100 100 20 0 5#1"
    ∷ lines (card_lines ++ "# thank you" ∷ [])
    -- a carriage return is a blank anywhere; blanks around a line's words
    ∷ spaced_by 13
    ∷ with_line 2 "  limits 130 "
    ∷ []

pub card_packed : printed_for (Pack card_text) ≡ card
unfolding printed_for
card_packed = refl

-- each is read as the card's text is, and so packed as it is (`all_packed`): the card's file is computed once
pub card_read : map read_text card_texts ≡ map (λ t. read_text card_text) card_texts
unfolding printed_for
card_read = refl

-- ---- what the page says and its examples do not show

-- two years, distress types and resources, and no segment; each number is another
abbrev pub pair_lines : List String
pair_lines =
    "district 0 1 2 2 1 2 # segments, strategies, years, distress types, pavement types, resources"
    ∷ "limits 1 2"
    ∷ "greatest 3 4"
    ∷ "strategy 5 6 -7 8 9 10 11 12 # strategy 1"
    ∷ "pavement 13 14 15 16 17 # pavement 1"
    ∷ "end"
    ∷ []

abbrev pub pair_file : List ℕ
pair_file =
    0x06 ∷ 0x00 ∷ 0x01 ∷ 0x00 ∷ 0x00 ∷ 0x01 ∷ 0x02 ∷ 0x02 ∷ 0x01 ∷ 0x02
    ∷ 0x08 ∷ 0x00 ∷ 0x02 ∷ 0x00 ∷ 0x01 ∷ 0x00 ∷ 0x00 ∷ 0x00 ∷ 0x02 ∷ 0x00 ∷ 0x00 ∷ 0x00
    ∷ 0x02 ∷ 0x00 ∷ 0x03 ∷ 0x00 ∷ 0x03 ∷ 0x04
    ∷ 0x0E ∷ 0x00 ∷ 0x04 ∷ 0x00 ∷ 0x05 ∷ 0x00 ∷ 0x00 ∷ 0x00 ∷ 0x06 ∷ 0x00 ∷ 0x00 ∷ 0x00 ∷ 0xF9 ∷ 0x08 ∷ 0x09 ∷ 0x0A ∷ 0x0B ∷ 0x0C
    ∷ 0x06 ∷ 0x00 ∷ 0x05 ∷ 0x00 ∷ 0x0D ∷ 0x00 ∷ 0x0E ∷ 0x0F ∷ 0x10 ∷ 0x11
    ∷ 0x00 ∷ 0x00 ∷ 0x07 ∷ 0x00
    ∷ []

abbrev pub further : List Exchange
further =
    -- rows have the years of distress type 1 first, in the text as in the file
    Pack (lines pair_lines) ⇒ pair_file
    -- a form feed is no blank
    ∷ Pack (spaced_by 12) ⇒ lines ("line 1: 'district?2?2?2?1?1?1..' is not the word due ('district')" ∷ [])
    -- the first word says the form, in whatever line it stands
    ∷ Pack (lines ("# leaders" ∷ unled_lines)) ⇒ card_up
    -- lines without a word are counted, and so is a last one that lacks its line feed
    ∷ Pack (lines (set office_lines 13 "segment   1    100     100          0100  20   0     21    # 1 Mill Road"))
    ⇒ lines ("line 14: 21 is not 0 to 20" ∷ [])
    ∷ Pack (lines (take 7 card_lines) ++ text "segment 1 100 100 200 20 0 15") ⇒ lines ("line 9: the end is missing ('end' is due)" ∷ [])
    ∷ Pack (lines (" " ∷ "x" ∷ [])) ⇒ lines ("line 2: 'x' is not the word due ('district')" ∷ [])
    -- a second end follows the end
    ∷ Pack (lines (card_lines ++ "end" ∷ [])) ⇒ lines ("line 10: something follows the end" ∷ [])
    -- the length comes before all else
    ∷ Pack (replicate 65_537 32) ⇒ lines ("the text is longer than 65536 bytes" ∷ [])
    -- 20 bytes are shown whole
    ∷ Pack (with_line 2 "limits 1234567890123456789x") ⇒ lines ("line 2: '1234567890123456789x' is not a number" ∷ [])
    ∷ []

pub further_packed : Agree further
unfolding printed_for
further_packed = refl

-- ---- every byte alone

-- n of them, from b on
unfoldable pub bytes_from : ℕ → ℕ → List ℕ
bytes_from zero b = []
bytes_from (suc n) b = b ∷ bytes_from n (b + 1)

-- a tab, a line feed, a carriage return, a space and '#' are no word; another byte is one, shown as it is or as '?'
abbrev pub no_words : List ℕ
no_words = 9 ∷ 10 ∷ 13 ∷ 32 ∷ 35 ∷ []

abbrev pub shown : List ℕ
shown = 33 ∷ 34 ∷ bytes_from 91 36

abbrev pub not_shown : List ℕ
not_shown = bytes_from 9 0 ++ (11 ∷ 12 ∷ (bytes_from 18 14 ++ bytes_from 129 127))

abbrev pub alone : List Exchange
alone =
    map (λ b. Pack (b ∷ []) ⇒ lines ("line 2: the end is missing ('district' is due)" ∷ [])) no_words
    ++ (map (λ b. Pack (b ∷ []) ⇒ (text "line 1: '" ++ b ∷ text "' is not the word due ('district')\n")) shown
    ++ map (λ b. Pack (b ∷ []) ⇒ lines ("line 1: '?' is not the word due ('district')" ∷ [])) not_shown)

pub alone_packed : Agree alone
unfolding printed_for bytes_from
alone_packed = refl
