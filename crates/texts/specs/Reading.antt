-- docs/FILE.md, "The text" and "Which comes first": what any bytes are read as, a district in its form, or the first complaint.
-- A text is read as a file is (rules/specs/File), over the same records and numbers, with words in place of bytes. While it is read, d holds
-- the values of the records before.
use Rattle.std.specs.Prelude.{ℕ, zero, suc, ◌+◌, Bool, true, false, List, [], ◌∷◌, ◌++◌, leb, length, get_or, replicate, ℤ, Option, None, Some, Result, Ok, Err}
use Rattle.base.specs.Choice.{pick}
use Rattle.base.specs.Same.{same}
use Rattle.rules.specs.District.{District}
use Rattle.rules.specs.Format.{plain_form, leader_form, field_at, present, slot_of, file_records, Slot}
use Rattle.rules.specs.declared.Field.{Field}
use Rattle.texts.specs.Words.{Word, Words, Line, lines_in, lines_of}
use Rattle.texts.specs.Numbers.{value_of, least, most, in_field, held_as}
use Rattle.texts.specs.Records.{word_of, is_due, due, due_before}
use Rattle.texts.specs.Complaints.{longest_text, Fault, OtherWord, NumberMissing, NoNumber, OutOfRange, NumberTooMany, BehindEnd, EndMissing, Complaint, TooLong, InLine}

-- the first thing that is wrong, or what was found, and what follows it
pub data Reading (W A R : Type 0) : Type 0 where
  wrong : W → Reading W A R
  found : A → R → Reading W A R

-- what follows a reading in which nothing is wrong
abbrev pub and_then : {W A B R : Type 0} → Reading W A R → (A → R → Reading W B R) → Reading W B R
and_then (wrong w) next = wrong w
and_then (found x rest) next = next x rest

-- ---- a line: from the left, and of each number first whether it stands there, then whether it is one, then its range

-- the word w, which is this number or none, where one of the field f is due
abbrev pub read_value : Field → Word → Option ℤ → Words → Reading Fault ℕ Words
read_value f w None ws = wrong (NoNumber w)
read_value f w (Some v) ws = pick (in_field f v) (found (held_as v) ws) (wrong (OutOfRange w (least f) (most f)))

-- the n-th number of the record s, where it is due: else its place holds 0, and takes no word
abbrev pub read_number : Bool → District → Slot → ℕ → Words → Reading Fault ℕ Words
read_number false d s n ws = found 0 ws
read_number true d s n [] = wrong (NumberMissing (due_before d s n) (due d s))
read_number true d s n (w ∷ ws) = read_value (field_at d s n) w (value_of w) ws

-- m numbers of the record s, from its n-th on, after the numbers vs; then no word may follow
unfoldable pub read_numbers : ℕ → District → Slot → ℕ → List ℕ → Words → Reading Fault (List ℕ) Words
read_numbers zero d s n vs [] = found vs []
read_numbers zero d s n vs (w ∷ ws) = wrong (NumberTooMany (due d s))
read_numbers (suc m) d s n vs ws =
    and_then (read_number (is_due d s n) d s n ws) (λ x rest. read_numbers m d s (n + 1) (vs ++ x ∷ []) rest)

-- the word of the record s, then its numbers
abbrev pub read_line : District → Slot → Words → Reading Fault (List ℕ) Words
read_line d s [] = wrong (OtherWord [] s.kind)
read_line d s (w ∷ ws) = pick (same w (word_of s.kind)) (read_numbers s.places d s 0 [] ws) (wrong (OtherWord w s.kind))

-- ---- a text: a line for each record that the district has

-- what the line of this number is read as, with the lines behind it
abbrev pub in_line : ℕ → Reading Fault (List ℕ) Words → List Line → Reading Complaint (List ℕ) (List Line)
in_line n (wrong f) ls = wrong (InLine n f)
in_line n (found vs ws) ls = found vs ls

-- the record s, where it is present: else its places hold 0, and it takes no line. `behind` is the number of the line behind the last
abbrev pub read_record : Bool → ℕ → District → Slot → List Line → Reading Complaint (List ℕ) (List Line)
read_record false behind d s ls = found (replicate s.places 0) ls
read_record true behind d s [] = wrong (InLine behind (EndMissing s.kind))
read_record true behind d s (l ∷ ls) = in_line l.number (read_line d s l.words) ls

-- m records of a form, from the n-th on, where d are the values before; then no line may follow
unfoldable pub read_records : ℕ → ℕ → ℕ → ℕ → District → List Line → Reading Complaint District (List Line)
read_records form behind zero n d [] = found d []
read_records form behind zero n d (l ∷ ls) = wrong (InLine l.number BehindEnd)
read_records form behind (suc m) n d ls =
    and_then (read_record (present d (slot_of form n)) behind d (slot_of form n) ls)
    (λ vs rest. read_records form behind m (n + 1) (d ++ vs) rest)

-- the form that the first word says; every other text is read as one without leaders
unfoldable pub form_in : List Line → ℕ
form_in [] = plain_form
form_in (l ∷ ls) = pick (same (get_or l.words 0 []) (word_of leader_form)) leader_form plain_form

-- a district, and the form of its text and its file
pub record Formed : Type 0 where
  pub form : ℕ
  pub district : District

abbrev pub formed : ℕ → Reading Complaint District (List Line) → Result Formed Complaint
formed form (wrong c) = Err c
formed form (found d ls) = Ok (record { form = form; district = d })

unfoldable pub read_lines : ℕ → List Line → Result Formed Complaint
read_lines behind ls = formed (form_in ls) (read_records (form_in ls) behind file_records 0 [] ls)

-- before all else, that it is not too long
abbrev pub read_within : Bool → List ℕ → Result Formed Complaint
read_within false bs = Err TooLong
read_within true bs = read_lines (lines_in bs + 1) (lines_of bs)

unfoldable pub read_text : List ℕ → Result Formed Complaint
read_text bs = read_within (leb (length bs) longest_text) bs
