-- What a text is read as is in the ranges of its form.
use Rattle.std.proofs.Common.{ℕ, zero, suc, ◌+◌, ◌≡◌, Bool, true, false, List, [], ◌∷◌, ◌++◌, length, get_or, replicate, ℤ, Option, None, Some, refl, sym, ap, ◌∙◌, arith}
use lib.ListN.{length-append, length-replicate}
use Rattle.std.proofs.lemmas.List.{get_or-replicate}
use Rattle.base.specs.Choice.{pick}
use Rattle.base.specs.Same.{same}
use Rattle.rules.specs.District.{District}
use Rattle.rules.specs.Format.{ranged, present, field_at, inside, slot_of, file_records, Slot}
use Rattle.grammar.specs.Places.{Form, start_of}
use Rattle.grammar.proofs.InRange.{InRange}
use Rattle.grammar.proofs.Slots.{start_next}
use Rattle.file.proofs.Took.{Took, TookRecord, TookAll, took_none, took_more, took_record, took_end, took_next, took_range}
use Rattle.texts.specs.Words.{Word, Words, Line}
use Rattle.texts.specs.Numbers.{value_of, least, most, in_field, held_as}
use Rattle.texts.specs.Records.{word_of, is_due}
use Rattle.texts.specs.Complaints.{Fault, OutOfRange, OtherWord, Complaint}
use Rattle.texts.specs.Reading.{Reading, wrong, found, read_value, read_number, read_numbers, read_line, in_line, read_record, read_records}
use Rattle.texts.proofs.Held.{field_holds}
use Rattle.texts.proofs.Lines.{number_found, number_wrong}
use Rattle.texts.proofs.Taken.{record_found, record_wrong}

-- ---- a record's numbers

module _ (u : District) (s : Slot) where
  value_held : (n : ℕ) (w : Word) (v : Option ℤ) (ws rest : Words) (x : ℕ) → read_value (field_at u s n) w v ws ≡ found x rest → inside (field_at u s n) x ≡ true
  value_held n w None ws rest x e = absurd cc
  value_held n w (Some v) ws rest x e = go (in_field (field_at u s n) v) refl e
    where
      go : (t : Bool) → in_field (field_at u s n) v ≡ t → pick t (found (held_as v) ws) (wrong (OutOfRange w (least (field_at u s n)) (most (field_at u s n)))) ≡ found x rest → inside (field_at u s n) x ≡ true
      go true q k = let h : held_as v ≡ x = cc in ap (inside (field_at u s n)) (sym h) ∙ (field_holds u s n).held v q
      go false q k = absurd cc

  number_held : (b : Bool) (n : ℕ) (ws rest : Words) (x : ℕ) → is_due u s n ≡ b → read_number b u s n ws ≡ found x rest → inside (field_at u s n) x ≡ true
  number_held false n ws rest x q e = let h : 0 ≡ x = cc in ap (inside (field_at u s n)) (sym h) ∙ (field_holds u s n).none q
  number_held true n [] rest x q e = absurd cc
  number_held true n (w ∷ ws) rest x q e = value_held n w (value_of w) ws rest x e

  numbers_held : (m n : ℕ) (vs : List ℕ) (ws rest : Words) (all : List ℕ) → read_numbers m u s n vs ws ≡ found all rest → Took u s m n vs all
  unfolding read_numbers
  numbers_held zero n vs [] rest all e = took_none u s n vs all (cc)
  numbers_held zero n vs (w ∷ ws) rest all e = absurd cc
  numbers_held (suc m) n vs ws rest all e = go (read_number (is_due u s n) u s n ws) refl (λ x rs. numbers_held m (n + 1) (vs ++ x ∷ []) rs rest all)
    where
      go : (o : Reading Fault ℕ Words) → read_number (is_due u s n) u s n ws ≡ o
          → ((x : ℕ) (rs : Words) → read_numbers m u s (n + 1) (vs ++ x ∷ []) rs ≡ found all rest → Took u s m (n + 1) (vs ++ x ∷ []) all) → Took u s (suc m) n vs all
      go (wrong f) t ih = absurd (cc (sym (number_wrong m u s n vs ws f t) ∙ e))
      go (found x rs) t ih = took_more u s m n x vs all (number_held (is_due u s n) n ws rs x refl t) (ih x rs (sym (number_found m u s n vs ws x rs t) ∙ e))

  words_held : (ws rest : Words) (vs : List ℕ) → read_line u s ws ≡ found vs rest → TookRecord u s vs
  words_held [] rest vs e = absurd cc
  words_held (w ∷ ws) rest vs e = go (same w (word_of s.kind)) e
    where
      go : (t : Bool) → pick t (read_numbers s.places u s 0 [] ws) (wrong (OtherWord w s.kind)) ≡ found vs rest → TookRecord u s vs
      go true k = took_record u s vs (numbers_held s.places 0 [] ws rest vs k)
      go false k = absurd cc

  line_held : (n : ℕ) (ws : Words) (ls rest : List Line) (vs : List ℕ) (o : Reading Fault (List ℕ) Words) → read_line u s ws ≡ o → in_line n o ls ≡ found vs rest → TookRecord u s vs
  line_held n ws ls rest vs (wrong f) t e = absurd cc
  line_held n ws ls rest vs (found xs rs) t e = let v : xs ≡ vs = cc in words_held ws rs vs (t ∙ ap (λ y. found y rs) v)

  none_held : present u s ≡ false → (i : ℕ) → inside (field_at u s i) 0 ≡ true
  unfolding field_at ranged
  none_held t i = rw t refl

  record_held : (b : Bool) (last : ℕ) (ls rest : List Line) (vs : List ℕ) → present u s ≡ b → read_record b last u s ls ≡ found vs rest → TookRecord u s vs
  record_held false last ls rest vs t e =
      let v : replicate s.places 0 ≡ vs = cc in
      record {
        count = ap length (sym v) ∙ length-replicate s.places 0;
        good = λ i h. ap (λ l. inside (field_at u s i) (get_or l i 0)) (sym v) ∙ ap (inside (field_at u s i)) (get_or-replicate s.places i 0 0 h) ∙ none_held t i;
      }
  record_held true last [] rest vs t e = absurd cc
  record_held true last (l ∷ ls) rest vs t e = line_held l.number l.words ls rest vs (read_line u s l.words) refl e

-- ---- all records

module _ (form : ℕ) (f : Form form) (last : ℕ) (d : District) where
  records_held : (m n : ℕ) (u : List ℕ) (ls rest : List Line) → n + m ≡ file_records → length u ≡ start_of n → read_records form last m n u ls ≡ found d rest → TookAll form d n u
  unfolding read_records
  records_held zero n u [] rest e l q = took_end form d n u (omega arith) l (cc)
  records_held zero n u (x ∷ ls) rest e l q = absurd cc
  records_held (suc m) n u ls rest e l q =
      go (read_record (present u (slot_of form n)) last u (slot_of form n) ls) refl (λ vs rs. records_held m (n + 1) (u ++ vs) rs rest (omega arith))
    where
      go : (o : Reading Complaint (List ℕ) (List Line)) → read_record (present u (slot_of form n)) last u (slot_of form n) ls ≡ o
          → ((vs : List ℕ) (rs : List Line) → length (u ++ vs) ≡ start_of (n + 1) → read_records form last m (n + 1) (u ++ vs) rs ≡ found d rest → TookAll form d (n + 1) (u ++ vs)) → TookAll form d n u
      go (wrong c) t ih = absurd (cc (sym (record_wrong form last m n u ls c t) ∙ q))
      go (found vs rs) t ih =
          let k = record_held u (slot_of form n) (present u (slot_of form n)) last ls rs vs refl t in
          let c : length (u ++ vs) ≡ start_of (n + 1) = omega (arith, length-append u vs, start_next form n, k.count) in
          took_next form f d n (omega arith) u vs l k (ih vs rs c (sym (record_found form last m n u ls vs rs t) ∙ q))

  pub read_in_range : (ls rest : List Line) → read_records form last file_records 0 [] ls ≡ found d rest → InRange form d
  read_in_range ls rest e = took_range form d [] (records_held file_records 0 [] ls rest refl refl e)
