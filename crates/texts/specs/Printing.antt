-- docs/FILE.md, "A good file": the text of a district.
use Rattle.std.specs.Prelude.{ℕ, zero, suc, ◌+◌, Bool, true, false, List, [], ◌++◌, eqb}
use Rattle.base.specs.Choice.{pick}
use Rattle.base.specs.Text.{text}
use Rattle.rules.specs.District.{District, value_at}
use Rattle.rules.specs.Format.{field_at, present, slot_of, file_records, Slot}
use Rattle.rules.specs.declared.Field.{Field}
use Rattle.texts.specs.Numbers.{written, shown_in}
use Rattle.texts.specs.Records.{word_of, is_numbered, name_of, is_due}

-- a number behind one space
abbrev pub number_text : Field → ℕ → List ℕ
number_text f x = text " " ++ written (shown_in f x)

-- m numbers of the record s, from its n-th on, which stand in the district from a place on: those that it has
unfoldable pub numbers_text : ℕ → District → Slot → ℕ → ℕ → List ℕ
numbers_text zero d s n place = []
numbers_text (suc m) d s n place =
    pick (is_due d s n) (number_text (field_at d s n) (value_at d place)) [] ++ numbers_text m d s (n + 1) (place + 1)

-- the comment says what the counts are, and which strategy, pavement type or segment it is
unfoldable pub comment_of : Slot → List ℕ
comment_of s =
    pick (eqb s.kind s.form) (text " # segments, strategies, years, distress types, pavement types, resources")
    (pick (is_numbered s) (text " # " ++ name_of s) [])

-- a line for the record s, where the district has it
abbrev pub record_text : Bool → District → Slot → ℕ → List ℕ
record_text false d s place = []
record_text true d s place = word_of s.kind ++ (numbers_text s.places d s 0 place ++ (comment_of s ++ text "\n"))

-- m records, from the n-th on, whose numbers stand in the district from a place on
unfoldable pub records_text : ℕ → ℕ → District → ℕ → ℕ → List ℕ
records_text form zero d n place = []
records_text form (suc m) d n place =
    record_text (present d (slot_of form n)) d (slot_of form n) place ++ records_text form m d (n + 1) (place + (slot_of form n).places)

unfoldable pub text_of : ℕ → District → List ℕ
text_of form d = records_text form file_records d 0 0
