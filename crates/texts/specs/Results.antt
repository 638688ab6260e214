-- What is asked of the two programs, and what they print: bytes that a theorem can compute. A theorem that unfolds `printed_for` unfolds all
-- definitions with it.
use Rattle.std.specs.Prelude.{ℕ, ◌≡◌, refl, get_or, drop}
use mathlib.Core.Path.{ap, ap₂, ◌∙◌}
use Prim.Native.String.{String}
use mathlib.Core.List.{List, [], ◌∷◌, ◌++◌, map, foldr}
use Rattle.base.specs.Over
use Rattle.base.specs.Same
use Rattle.base.specs.Text
use Rattle.listing.specs.Listing
use Rattle.rules.specs.Calls
use Rattle.rules.specs.District
use Rattle.rules.specs.File
use Rattle.rules.specs.Format
use Rattle.texts.specs.Words
use Rattle.texts.specs.Numbers
use Rattle.texts.specs.Records
use Rattle.texts.specs.Complaints
use Rattle.texts.specs.Reading
use Rattle.texts.specs.Printing
use Rattle.texts.specs.Places
use Rattle.texts.specs.Programs

pub data Question : Type 0 where
  Pack : List ℕ → Question
  Unpack : List ℕ → Question

unfoldable pub printed_for : Question → List ℕ
unfolding
    Over.all Same.same Text.text Text.up_to Text.digits_of Text.decimal Text.value_from
    District.greatest_of District.leader_of
    Format.ranged Format.field_at
    File.read_numbers File.read_record File.read_records File.decode_as File.decode File.number_bytes File.records_bytes File.encode_as
    Calls.loaded_of Calls.district_in
    Listing.named Listing.ended Listing.line Listing.refusal
    Words.parts Words.lines_in Words.not_empty Words.words_in Words.words_of Words.lines_from Words.lines_of
    Numbers.has_minus Numbers.behind_minus Numbers.size_of Numbers.value_of Numbers.written
    Records.word_of Records.name_of Records.due_in
    Complaints.quoted Complaints.quoted_due Complaints.not_in Complaints.fault_text Complaints.complaint_text
    Reading.read_numbers Reading.read_records Reading.form_in Reading.read_lines Reading.read_text
    Printing.numbers_text Printing.comment_of Printing.records_text Printing.text_of
    Places.refusal_at Places.number_place Places.record_place Places.places_from Places.form_read Places.place_in Places.place_text
    Programs.packed Programs.unpacked
printed_for (Pack bs) = Programs.packed bs
printed_for (Unpack bs) = Programs.unpacked bs

-- bytes of these lines, each with its line feed
abbrev pub lines : List String → List ℕ
lines ss = foldr (λ s rest. Text.text s ++ (10 ∷ rest)) [] ss

infix 70 ◌⇒◌
-- what is asked, and what is printed for it
pub data Exchange : Type 0 where
  ◌⇒◌ : Question → List ℕ → Exchange

abbrev pub computed : Exchange → List ℕ
computed (q ⇒ printed) = printed_for q

abbrev pub expected : Exchange → List ℕ
expected (q ⇒ printed) = printed

-- for each what stands beside it
abbrev pub Agree : List Exchange → Type 0
Agree cases = map computed cases ≡ map expected cases

-- a text that is read as another is packed as that one is
packed_as : (c t : List ℕ) → Reading.read_text t ≡ Reading.read_text c → printed_for (Pack t) ≡ printed_for (Pack c)
unfolding printed_for
packed_as c t e = ap Programs.file_or_complaint e

pub all_packed :
    (c file : List ℕ) → printed_for (Pack c) ≡ file → (ts : List (List ℕ)) → map Reading.read_text ts ≡ map (λ t. Reading.read_text c) ts
    → Agree (map (λ t. Pack t ⇒ file) ts)
all_packed c file e [] read = refl
all_packed c file e (t ∷ ts) read =
    ap₂ (λ (x : List ℕ) (xs : List (List ℕ)). x ∷ xs) (packed_as c t (ap (λ l. get_or l 0 (Reading.read_text c)) read) ∙ e) (all_packed c file e ts (ap (λ l. drop 1 l) read))
