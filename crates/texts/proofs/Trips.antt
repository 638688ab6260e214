-- File, text, file; text, file, text; and what is promised of both programs in one, as the contract of `most_printed` cites it.
use Rattle.std.proofs.Common.{ℕ, ◌≡◌, Bool, true, false, ltb, List, [], length, Option, None, Some, Ok, inl, refl, sym, ap, ◌∙◌}
use borrow.Author.Tests.{ltb-true}
use Rattle.base.specs.Bytes.{Bytes}
use Rattle.base.proofs.Choice.{pick_all}
use Rattle.rules.specs.Calls.{load_refusal_of, load_refusal, loaded_of, district_in}
use Rattle.rules.specs.District.{District}
use Rattle.rules.specs.File.{found, decode_as, form_in, decode, encode_as, in_range}
use Rattle.rules.specs.Format.{plain_form}
use Rattle.grammar.specs.Places.{Form, Suits}
use Rattle.file.proofs.Back.{decode_own}
use Rattle.file.proofs.Forth.{encode_decode_as, found_as}
use Rattle.file.proofs.TwoForms.{form_in_lem, form_encoded, short_as}
use Rattle.texts.specs.Places.{Place, EndsWithin, OtherKind, OtherLength, OutOfRange, BehindEnd, refusal_at, form_read, place_in}
use Rattle.texts.specs.Printing.{text_of}
use Rattle.texts.specs.Programs.{packed, unpacked}
use Rattle.texts.specs.Promises.{refusal_of, Promises}
use Rattle.texts.specs.Reading.{Formed, read_text}
use Rattle.texts.proofs.Complained.{complaint_no_file}
use Rattle.texts.proofs.Fronts.{text_front}
use Rattle.texts.proofs.Loads.{read_ranged, file_packed, loads}
use Rattle.texts.proofs.Longest.{printed_short, some_as_long}
use Rattle.texts.proofs.Places.{form_agrees, same_refusal, text_unpacked}
use Rattle.texts.proofs.ReadBack.{printed_read}
use Rattle.texts.proofs.Unread.{file_front}

-- ---- a file that loads

some_refusal : (p : Place) → refusal_at p ≡ 0 → ⊥
unfolding refusal_at
some_refusal (EndsWithin p s) e = cc
some_refusal (OtherKind p kind due) e = cc
some_refusal (OtherLength p s size due) e = cc
some_refusal (OutOfRange p s q v lo hi) e = cc
some_refusal (BehindEnd n) e = cc

no_place : (file : List ℕ) → load_refusal file ≡ 0 → place_in file ≡ None
no_place file e = go (place_in file) (same_refusal file ∙ e)
  where
    go : (o : Option Place) → refusal_of o ≡ 0 → o ≡ None
    go None q = refl
    go (Some p) q = absurd (some_refusal p q)

read_form : (file : List ℕ) → Form (form_read file)
unfolding form_read
read_form file = pick_all Form (ltb (length file) 4) plain_form (form_in file) (inl refl) (form_in_lem file)

-- it is read in the form of its text, as its district
file_read : (file : List ℕ) → load_refusal file ≡ 0 → decode_as (form_read file) file ≡ found (district_in file) []
unfolding load_refusal district_in
file_read file e =
    let form = form_read file in
    let same = ap load_refusal_of (form_agrees file) ∙ e in
    found_as form (read_form file) file same ∙ ap (λ (d : District). found d []) (ap loaded_of (form_agrees file))

-- ---- the file of a district in a form

module _ (form : ℕ) (f : Form form) (d : District) (e : in_range d ≡ true) (s : Suits form d) where
  own : decode (encode_as form d) ≡ found d []
  own = decode_own form f d e s

  own_accepted : load_refusal (encode_as form d) ≡ 0
  unfolding load_refusal load_refusal_of
  own_accepted = rw own refl

  own_district : district_in (encode_as form d) ≡ d
  unfolding district_in loaded_of
  own_district = rw own refl

  own_form : form_read (encode_as form d) ≡ form
  unfolding form_read decode
  own_form = go (ltb (length (encode_as form d)) 4) refl
    where
      go : (t : Bool) → ltb (length (encode_as form d)) 4 ≡ t → form_read (encode_as form d) ≡ form
      go true q = absurd (cc (sym own ∙ short_as (form_in (encode_as form d)) (form_in_lem (encode_as form d)) (encode_as form d) (ltb-true (length (encode_as form d)) 4 q)))
      go false q = rw q (form_encoded form f d)

  own_text : unpacked (encode_as form d) ≡ text_of form d
  own_text = text_unpacked (encode_as form d) (no_place (encode_as form d) own_accepted) ∙ ap (λ (g : ℕ). text_of g (district_in (encode_as form d))) own_form ∙ ap (text_of form) own_district

-- ---- both trips

file_again : (file : List ℕ) → Bytes file → load_refusal file ≡ 0 → packed (unpacked file) ≡ file
file_again file b e =
    let form = form_read file in
    let d = district_in file in
    let k = encode_decode_as form (read_form file) file d [] (file_read file e) in
    ap packed (text_unpacked file (no_place file e)) ∙ file_packed (text_of form d) (record { form = form; district = d }) (printed_read form (read_form file) d k.1 k.2) ∙ k.0 b

text_again : (bs : List ℕ) (f : Formed) → read_text bs ≡ Ok f → read_text (unpacked (packed bs)) ≡ Ok f
text_again bs f e =
    let r = read_ranged bs f e in
    ap (λ (file : List ℕ). read_text (unpacked file)) (file_packed bs f e) ∙ ap read_text (own_text f.form r.0 f.district r.1 r.2) ∙ printed_read f.form r.0 f.district r.1 r.2

pub promises : Promises
promises =
    record {
      printed_is_read = printed_read;
      printed_is_short = printed_short;
      some_is_as_long = some_as_long;
      file_again = file_again;
      loads = loads;
      text_again = text_again;
      complaint_no_file = complaint_no_file;
      same_refusal = same_refusal;
      file_front = file_front;
      text_front = text_front;
    }
