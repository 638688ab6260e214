-- docs/FILE.md, "What pack answers" and "What unpack answers": what each prints for the bytes that it reads.
use Rattle.std.specs.Prelude.{ℕ, ◌+◌, List, ◌++◌, Option, None, Some, Result, Ok, Err}
use Rattle.listing.specs.Listing.{refusal}
use Rattle.rules.specs.Calls.{district_in}
use Rattle.rules.specs.File.{encode_as}
use Rattle.texts.specs.Complaints.{longest_text, Complaint, complaint_text}
use Rattle.texts.specs.Places.{Place, refusal_at, form_read, place_in, place_text}
use Rattle.texts.specs.Printing.{text_of}
use Rattle.texts.specs.Reading.{Formed, read_text}

-- pack reads one byte more than a text may have
abbrev pub most_text_read : ℕ
most_text_read = longest_text + 1

-- the file in the form of its text, or the complaint
abbrev pub file_or_complaint : Result Formed Complaint → List ℕ
file_or_complaint (Ok f) = encode_as f.form f.district
file_or_complaint (Err c) = complaint_text c

unfoldable pub packed : List ℕ → List ℕ
packed bs = file_or_complaint (read_text bs)

-- the text in the form of its file, or the refusal as `plan` prints it and, in a line, its place
abbrev pub text_or_place : Option Place → List ℕ → List ℕ
text_or_place None bs = text_of (form_read bs) (district_in bs)
text_or_place (Some place) bs = refusal (refusal_at place) ++ place_text place

unfoldable pub unpacked : List ℕ → List ℕ
unpacked bs = text_or_place (place_in bs) bs
