-- A file that pack gives loads as just the district that the text says, which is in the file's ranges.
use Rattle.std.proofs.Common.{ℕ, ◌≡◌, Bool, true, false, leb, List, [], ◌∷◌, length, Ok, inl, inr, refl, ap, ◌∙◌}
use mathlib.Core.Path.{subst}
use Rattle.base.proofs.Choice.{pick_all}
use Rattle.rules.specs.District.{District}
use Rattle.rules.specs.File.{found, decode, encode_as, in_range}
use Rattle.rules.specs.Format.{plain_form, leader_form, file_records}
use Rattle.grammar.specs.Places.{Form, Suits}
use Rattle.grammar.proofs.InRange.{InRange}
use Rattle.grammar.proofs.Forms.{range_form}
use Rattle.file.proofs.Back.{decode_own}
use Rattle.texts.specs.Words.{Line, lines_of}
use Rattle.texts.specs.Complaints.{longest_text, Complaint}
use Rattle.texts.specs.Programs.{packed}
use Rattle.texts.specs.Reading as R
use Rattle.texts.specs.Reading.{Reading, form_in, Formed, formed, read_records, read_lines, read_within, read_text}
use Rattle.texts.proofs.Ranged.{read_in_range}

-- a form, and a district that it holds
record Sound (f : Formed) : Type 0 where
  form : Form f.form
  held : InRange f.form f.district

text_form : (ls : List Line) → Form (form_in ls)
unfolding form_in
text_form [] = inl refl
text_form (l ∷ ls) = pick_all Form _ leader_form plain_form (inr refl) (inl refl)

records_sound : (form last : ℕ) (ls : List Line) (f : Formed) → Form form → formed form (read_records form last file_records 0 [] ls) ≡ Ok f → Sound f
records_sound form last ls f a e = go (read_records form last file_records 0 [] ls) refl e
  where
    go : (o : Reading Complaint District (List Line)) → read_records form last file_records 0 [] ls ≡ o → formed form o ≡ Ok f → Sound f
    go (R.wrong c) t k = absurd cc
    go (R.found d rest) t k =
        let q : record { form = form; district = d } ≡ f = cc in
        subst Sound q (record { form = a; held = read_in_range form a last d ls rest t })

read_sound : (bs : List ℕ) (f : Formed) → read_text bs ≡ Ok f → Sound f
unfolding read_text read_lines
read_sound bs f e = go (leb (length bs) longest_text) e
  where
    go : (t : Bool) → read_within t bs ≡ Ok f → Sound f
    go false k = absurd cc
    go true k = records_sound (form_in (lines_of bs)) _ (lines_of bs) f (text_form (lines_of bs)) k

pub read_ranged : (bs : List ℕ) (f : Formed) → read_text bs ≡ Ok f → Form f.form × (in_range f.district ≡ true) × Suits f.form f.district
read_ranged bs f e = let s = read_sound bs f e in let r = range_form f.form s.form f.district s.held in (s.form, r.0, r.1)

pub file_packed : (bs : List ℕ) (f : Formed) → read_text bs ≡ Ok f → packed bs ≡ encode_as f.form f.district
unfolding packed
file_packed bs f e = rw e refl

pub loads : (bs : List ℕ) (f : Formed) → read_text bs ≡ Ok f → (decode (packed bs) ≡ found f.district []) × (in_range f.district ≡ true)
loads bs f e = let r = read_ranged bs f e in (ap decode (file_packed bs f e) ∙ decode_own f.form r.0 f.district r.1 r.2, r.1)
