-- The place that is told has the number by which the file is refused.
use Rattle.std.proofs.Common.{ℕ, zero, suc, ◌+◌, ◌-◌, ◌≡◌, Bool, true, false, ltb, eqb, List, [], ◌∷◌, ◌++◌, length, take, drop, None, refl, sym, ap, ◌∙◌}
use Rattle.base.specs.Bytes.{number_of}
use Rattle.base.specs.Choice.{pick}
use Rattle.base.proofs.Choice.{pick_yes}
use Rattle.file.proofs.TwoForms.{read_own}
use Rattle.file.proofs.Steps.{numbers_none, record_none}
use Rattle.rules.specs.Answers.{cut_short, other_kind, other_length, out_of_range}
use Rattle.rules.specs.Calls.{load_refusal_of, load_refusal, district_in}
use Rattle.rules.specs.District.{District}
use Rattle.rules.specs.File.{Read, refused, found, value, size, kind_in, read_numbers, read_record, read_records, and_then, decode_as, decode}
use Rattle.rules.specs.Format.{field_at, present, inside, slot_of, file_records, Slot}
use Rattle.texts.specs.Places.{refusal_at, unless_in_range, number_place, record_place, or_behind, places_from, form_read, place_in}
use Rattle.texts.specs.Printing.{text_of}
use Rattle.texts.specs.Programs.{unpacked}
use Rattle.texts.specs.Promises.{refusal_of}

module _ (p : ℕ) (d : District) (s : Slot) where
  numbers_refused : (m n : ℕ) (vs bs : List ℕ) (k : ℕ) → read_numbers m d s n vs bs ≡ refused k → (k ≡ 4) × (refusal_at (number_place m p d s n bs) ≡ 4)
  unfolding read_numbers number_place refusal_at
  numbers_refused zero n vs bs k e = cc
  numbers_refused (suc m) n vs bs k e = go (inside (field_at d s n) (value (field_at d s n) bs)) (numbers_refused m (n + 1) (vs ++ value (field_at d s n) bs ∷ []) (drop (field_at d s n).width bs) k) e
    where
      x : ℕ
      x = value (field_at d s n) bs

      later : List ℕ
      later = drop (field_at d s n).width bs

      go : (t : Bool) → (read_numbers m d s (n + 1) (vs ++ x ∷ []) later ≡ refused k → (k ≡ 4) × (refusal_at (number_place m p d s (n + 1) later) ≡ 4))
          → pick t (read_numbers m d s (n + 1) (vs ++ x ∷ []) later) (refused out_of_range) ≡ refused k
          → (k ≡ 4) × (refusal_at (unless_in_range t p d s n x (number_place m p d s (n + 1) later)) ≡ 4)
      go true h e = h e
      go false h e = let q : k ≡ 4 = cc in (q, refl)

  module _ (bs : List ℕ) (k : ℕ) where
    -- the tests of a record in their order
    tests : (a b c e : Bool) → (read_numbers s.places d s 0 [] (drop 4 bs) ≡ refused k → (k ≡ 4) × (refusal_at (number_place s.places p d s 0 (drop 4 bs)) ≡ 4))
        → pick a (refused cut_short) (pick b (pick c (pick e (refused cut_short) (read_numbers s.places d s 0 [] (drop 4 bs))) (refused other_length)) (refused other_kind)) ≡ refused k
        → refusal_at (record_place k p d s bs) ≡ k
    unfolding record_place refusal_at
    tests true b c e h q = let z : k ≡ 1 = cc in rw z refl
    tests false false c e h q = let z : k ≡ 2 = cc in rw z refl
    tests false true false e h q = let z : k ≡ 3 = cc in rw z refl
    tests false true true true h q = let z : k ≡ 1 = cc in rw z refl
    tests false true true false h q = let z = h q in rw z.0 (z.1)

    absent_found : present d s ≡ false → read_record d s bs ≡ refused k → refusal_at (record_place k p d s bs) ≡ k
    absent_found t e = let q = sym (record_none d s bs t ∙ numbers_none s.places d s 0 [] bs t) ∙ e in cc

    present_refused : present d s ≡ true → read_record d s bs ≡ refused k → refusal_at (record_place k p d s bs) ≡ k
    unfolding read_record
    present_refused t e =
        tests (ltb (length bs) 4) (eqb (kind_in bs) s.kind) (eqb (number_of (take 2 bs)) (size d s)) (ltb (length bs - 4) (size d s))
        (numbers_refused s.places 0 [] (drop 4 bs) k)
        (pick_yes _ _ _ _ t refl ∙ e)

    record_refused : (t : Bool) → present d s ≡ t → read_record d s bs ≡ refused k → refusal_at (record_place k p d s bs) ≡ k
    record_refused true t e = present_refused t e
    record_refused false t e = absent_found t e

module _ (form : ℕ) where
  step : (m n p : ℕ) (d : District) (bs : List ℕ) (r : Read) → read_record d (slot_of form n) bs ≡ r
      → ((q : ℕ) (u rest : List ℕ) → refusal_of (places_from form m (n + 1) q u rest) ≡ load_refusal_of (read_records form m (n + 1) u rest))
      → refusal_of (or_behind r p d (slot_of form n) bs (λ vs rest. places_from form m (n + 1) (p + pick (present d (slot_of form n)) 1 0) (d ++ vs) rest))
      ≡ load_refusal_of (and_then r (λ vs rest. read_records form m (n + 1) (d ++ vs) rest))
  unfolding load_refusal_of
  step m n p d bs (refused k) e h = record_refused p d (slot_of form n) bs k (present d (slot_of form n)) refl e
  step m n p d bs (found vs rest) e h = h (p + pick (present d (slot_of form n)) 1 0) (d ++ vs) rest

  pub refusals_agree : (m n p : ℕ) (d : District) (bs : List ℕ) → refusal_of (places_from form m n p d bs) ≡ load_refusal_of (read_records form m n d bs)
  unfolding places_from read_records load_refusal_of refusal_at
  refusals_agree zero n p d [] = refl
  refusals_agree zero n p d (b ∷ bs) = refl
  refusals_agree (suc m) n p d bs = step m n p d bs (read_record d (slot_of form n) bs) refl (λ q u rest. refusals_agree m (n + 1) q u rest)

pub form_agrees : (bs : List ℕ) → decode_as (form_read bs) bs ≡ decode bs
unfolding form_read
form_agrees bs = read_own (form_read bs) bs refl

pub same_refusal : (file : List ℕ) → refusal_of (place_in file) ≡ load_refusal file
unfolding place_in load_refusal decode_as
same_refusal file = refusals_agree (form_read file) file_records 0 1 [] file ∙ ap load_refusal_of (form_agrees file)

pub text_unpacked : (file : List ℕ) → place_in file ≡ None → unpacked file ≡ text_of (form_read file) (district_in file)
unfolding unpacked
text_unpacked file e = rw e refl
