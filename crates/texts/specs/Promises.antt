-- docs/FILE.md, "What is promised": what holds of pack and unpack, for any bytes and for each district that a file may hold.
use Rattle.std.specs.Prelude.{ℕ, ◌≤◌, ◌≡◌, true, List, [], length, take, Option, None, Some, Ok, Err}
use Rattle.base.specs.Bytes.{Bytes}
use Rattle.grammar.specs.Places.{Form, Suits}
use Rattle.input.specs.Reading.{most_read}
use Rattle.rules.specs.Answers.{other_kind}
use Rattle.rules.specs.Calls.{load_refusal}
use Rattle.rules.specs.District.{District}
use Rattle.rules.specs.File.{found, decode, in_range}
use Rattle.rules.specs.Format.{leader_form}
use Rattle.texts.specs.Complaints.{Complaint}
use Rattle.texts.specs.Places.{Place, refusal_at, place_in}
use Rattle.texts.specs.Printing.{text_of}
use Rattle.texts.specs.Programs.{most_text_read, packed, unpacked}
use Rattle.texts.specs.Reading.{Formed, read_text}

-- what refuses the file, 0 where nothing does
abbrev pub refusal_of : Option Place → ℕ
refusal_of None = 0
refusal_of (Some place) = refusal_at place

-- of all districts and both forms
abbrev pub longest_printed : ℕ
longest_printed = 12_234

pub record Promises : Type 0 where
  -- in each form that has room for its leaders, a district in the file's ranges is what its text is read as
  pub printed_is_read :
      (form : ℕ) → Form form → (d : District) → in_range d ≡ true → Suits form d
      → read_text (text_of form d) ≡ Ok (record { form = form; district = d })
  -- no text that is printed is longer, and one is as long
  pub printed_is_short : (form : ℕ) → Form form → (d : District) → in_range d ≡ true → length (text_of form d) ≤ longest_printed
  pub some_is_as_long : (d : District) × (in_range d ≡ true) × (length (text_of leader_form d) ≡ longest_printed)
  -- file, text, file: in both forms, also in the one with leaders where none is set
  pub file_again : (file : List ℕ) → Bytes file → load_refusal file ≡ 0 → packed (unpacked file) ≡ file
  -- a file that pack gives loads as just the district that the text says; and text, file, text
  pub loads : (bs : List ℕ) (f : Formed) → read_text bs ≡ Ok f → (decode (packed bs) ≡ found f.district []) × (in_range f.district ≡ true)
  pub text_again : (bs : List ℕ) (f : Formed) → read_text bs ≡ Ok f → read_text (unpacked (packed bs)) ≡ Ok f
  -- a complaint is never mistaken for a file: a load refuses it by the kind of its first record
  pub complaint_no_file : (bs : List ℕ) (c : Complaint) → read_text bs ≡ Err c → load_refusal (packed bs) ≡ other_kind
  -- unpack refuses the files that a load refuses, by the same number
  pub same_refusal : (file : List ℕ) → refusal_of (place_in file) ≡ load_refusal file
  -- what the programs do not read makes no difference
  pub file_front : (file : List ℕ) → load_refusal (take most_read file) ≡ load_refusal file
  pub text_front : (bs : List ℕ) → packed (take most_text_read bs) ≡ packed bs
