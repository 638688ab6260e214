-- docs/FILE.md, "A refused file": where the first test is that a file does not meet, and what is printed of it.
-- What refuses a record is asked of the file's own reading (rules/specs/File); here it is told where that is.
use Rattle.std.specs.Prelude.{ℕ, zero, suc, ◌+◌, Bool, true, false, List, [], ◌∷◌, ◌++◌, eqb, ltb, length, take, drop, ℤ, Option, None, Some}
use Rattle.base.specs.Bytes.{number_of}
use Rattle.base.specs.Choice.{pick}
use Rattle.base.specs.Text.{text, decimal}
use Rattle.rules.specs.Answers.{cut_short, other_kind, other_length, out_of_range, bytes_follow}
use Rattle.rules.specs.District.{District}
use Rattle.rules.specs.File.{Read, refused, found, value, size, kind_in, read_record, form_in}
use Rattle.rules.specs.Format.{field_at, present, slot_of, file_records, inside, Slot, plain_form}
use Rattle.texts.specs.Numbers.{written, shown_in, least, most}
use Rattle.texts.specs.Records.{name_of, due_before}
use Rattle.texts.specs.Complaints.{not_in}

-- The first number is which record of the file it is, from 1; the record due there is given too, but where another kind stands.
pub data Place : Type 0 where
  EndsWithin : ℕ → Slot → Place
  -- the kind that stands there, and the kind due
  OtherKind : ℕ → ℕ → ℕ → Place
  -- the length that stands there, and the length due
  OtherLength : ℕ → Slot → ℕ → ℕ → Place
  -- which number of the record, from 1; what stands there; the least and the greatest that may
  OutOfRange : ℕ → Slot → ℕ → ℤ → ℤ → ℤ → Place
  -- how many bytes follow the end
  BehindEnd : ℕ → Place

-- the refusal of a file that has this place
unfoldable pub refusal_at : Place → ℕ
refusal_at (EndsWithin p s) = cut_short
refusal_at (OtherKind p kind due) = other_kind
refusal_at (OtherLength p s size due) = other_length
refusal_at (OutOfRange p s q v lo hi) = out_of_range
refusal_at (BehindEnd n) = bytes_follow

-- ---- where

-- the n-th number x of the p-th record, which is s, where the test does not hold of it, and else a later place
abbrev pub unless_in_range : Bool → ℕ → District → Slot → ℕ → ℕ → Place → Place
unless_in_range true p d s n x later = later
unless_in_range false p d s n x later =
    OutOfRange p s (due_before d s n + 1) (shown_in (field_at d s n) x) (least (field_at d s n)) (most (field_at d s n))

-- the first of m numbers of the record, from its n-th on, that is out of its range; behind all of them the end, which no record comes to here
unfoldable pub number_place : ℕ → ℕ → District → Slot → ℕ → List ℕ → Place
number_place zero p d s n bs = EndsWithin p s
number_place (suc m) p d s n bs =
    unless_in_range (inside (field_at d s n) (value (field_at d s n) bs)) p d s n (value (field_at d s n) bs)
    (number_place m p d s (n + 1) (drop (field_at d s n).width bs))

-- in the p-th record, which is s, where these bytes are refused by n
unfoldable pub record_place : ℕ → ℕ → District → Slot → List ℕ → Place
record_place n p d s bs =
    pick (eqb n cut_short) (EndsWithin p s)
    (pick (eqb n other_kind) (OtherKind p (kind_in bs) s.kind)
    (pick (eqb n other_length) (OtherLength p s (number_of (take 2 bs)) (size d s))
    (number_place s.places p d s 0 (drop 4 bs))))

-- where the p-th record is refused, and else what follows it says
abbrev pub or_behind : Read → ℕ → District → Slot → List ℕ → (List ℕ → List ℕ → Option Place) → Option Place
or_behind (refused n) p d s bs next = Some (record_place n p d s bs)
or_behind (found vs rest) p d s bs next = next vs rest

-- m records of a form, from the n-th on, where d are the values before; p is which record of the file comes next
unfoldable pub places_from : ℕ → ℕ → ℕ → ℕ → District → List ℕ → Option Place
places_from form zero n p d [] = None
places_from form zero n p d (b ∷ bs) = Some (BehindEnd (length (b ∷ bs)))
places_from form (suc m) n p d bs =
    or_behind (read_record d (slot_of form n) bs) p d (slot_of form n) bs
    (λ vs rest. places_from form m (n + 1) (p + pick (present d (slot_of form n)) 1 0) (d ++ vs) rest)

-- the form that the first kind says; a file that ends before it is read as one without leaders
unfoldable pub form_read : List ℕ → ℕ
form_read bs = pick (ltb (length bs) 4) plain_form (form_in bs)

-- nothing where no test refuses the file
unfoldable pub place_in : List ℕ → Option Place
place_in bs = places_from (form_read bs) file_records 0 1 [] bs

-- ---- what is printed

abbrev pub record_named : ℕ → Slot → List ℕ
record_named p s = text "record " ++ (decimal p ++ (text " (" ++ (name_of s ++ text ")")))

unfoldable pub place_text : Place → List ℕ
place_text (EndsWithin p s) = record_named p s ++ text ": the file ends within it\n"
place_text (OtherKind p kind due) =
    text "record " ++ (decimal p ++ (text ": kind " ++ (decimal kind ++ (text " stands where " ++ (decimal due ++ text " is due\n")))))
place_text (OtherLength p s size due) =
    record_named p s ++ (text ": " ++ (decimal size ++ (text " bytes stand where " ++ (decimal due ++ text " are due\n"))))
place_text (OutOfRange p s q v lo hi) =
    record_named p s ++ (text ", number " ++ (decimal q ++ (text ": " ++ (written v ++ (not_in lo hi ++ text "\n")))))
place_text (BehindEnd n) = decimal n ++ text " bytes follow the end\n"
