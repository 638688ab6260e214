-- What unpack does not read makes no difference: no test of a file looks behind the bytes that the longest may have.
use Rattle.std.proofs.Common.{ℕ, zero, suc, ◌+◌, ◌-◌, ◌*◌, ◌≤◌, ◌<◌, ◌≡◌, Bool, true, false, ltb, leb, eqb, List, [], ◌++◌, length, take, drop, refl, sym, ap, ◌∙◌, mul-suc, length-append, length-drop, length-take-le, take-append-drop, arith}
use lib.Dec.{lit≤}
use lib.Seq.{take_all}
use borrow.Author.Tests.{leb-true, leb-false, lt-ltb, le-ltb, eqb-true, ltb-true, ltb-false}
use Rattle.std.proofs.lemmas.List.{take-append-le, drop-append-le}
use Rattle.base.specs.Bytes.{number_of}
use Rattle.base.specs.Choice.{pick}
use Rattle.input.specs.Reading.{most_read}
use Rattle.rules.specs.Answers.{out_of_range, other_kind, other_length}
use Rattle.rules.specs.Calls.{load_refusal_of, load_refusal}
use Rattle.rules.specs.District.{District, count_places, most_distresses, most_resources, gains_at, minima_at, length_at, width_at, bars_at, ratings_at, per_strategy, per_pavement, per_segment}
use Rattle.rules.specs.File.{Read, refused, found, value, widths, size, kind_in, read_numbers, read_record, read_records, decode_as, form_in, decode}
use Rattle.rules.specs.Format.{number, greatest_field, pavement_field, segment_field, field_at, inside, present, slot, slot_of, file_records, Slot}
use Rattle.rules.specs.declared.Field.{Field}
use Rattle.grammar.specs.Places.{Form}
use Rattle.grammar.proofs.Slots.{form_all, slot_all}
use Rattle.file.proofs.Steps.{widths_none, widths_small, record_none, records_found, records_refused, records_over}
use Rattle.file.proofs.TwoForms.{form_in_lem}

-- ---- bytes, and the same with more behind them

-- the same refusal, or the same numbers; then at least k bytes are left before those that are more
abbrev Along : List ℕ → ℕ → Read → Read → Type 0
Along more k (refused n) r = r ≡ refused n
Along more k (found vs rest) r = (r ≡ found vs (rest ++ more)) × (k ≤ length rest)

-- the kind of the first record
kind_along : (a more : List ℕ) → 4 ≤ length a → take 2 (drop 2 (a ++ more)) ≡ take 2 (drop 2 a)
kind_along a more h = rw (drop-append-le 2 a more (omega arith)) (take-append-le 2 (drop 2 a) more (simp length-drop (omega arith)))

module _ (more : List ℕ) (k : ℕ) where
  along_pick : (t : Bool) (a b a' b' : Read) → Along more k a a' → Along more k b b' → Along more k (pick t a b) (pick t a' b')
  along_pick true a b a' b' h q = h
  along_pick false a b a' b' h q = q

  module _ (u : District) (s : Slot) where
    numbers_along : (m n : ℕ) (vs a : List ℕ) → widths m u s n + k ≤ length a → Along more k (read_numbers m u s n vs a) (read_numbers m u s n vs (a ++ more))
    unfolding read_numbers
    numbers_along zero n vs a h = (refl, omega arith)
    numbers_along (suc m) n vs a h =
        let f = field_at u s n in
        let left : widths m u s (n + 1) + k ≤ length (drop f.width a) = simp length-drop (omega arith) in
        rw (take-append-le f.width a more (omega arith), drop-append-le f.width a more (omega arith))
        (along_pick (inside f (value f a)) _ (refused out_of_range) _ (refused out_of_range) (numbers_along m (n + 1) _ (drop f.width a) left) refl)

    module _ (a : List ℕ) (h : 4 + size u s + k ≤ length a) where
      record_there : present u s ≡ true → Along more k (read_record u s a) (read_record u s (a ++ more))
      unfolding read_record
      record_there t =
          let l = length-append a more in
          let left : size u s + k ≤ length (drop 4 a) = simp length-drop (omega arith) in
          rw (t, le-ltb (length a) 4 (omega arith), le-ltb (length (a ++ more)) 4 (omega arith), kind_along a more (omega arith), take-append-le 2 a more (omega arith), le-ltb (length a - 4) (size u s) (omega arith), le-ltb (length (a ++ more) - 4) (size u s) (omega arith), drop-append-le 4 a more (omega arith))
          (along_pick (eqb (kind_in a) s.kind) _ (refused other_kind) _ (refused other_kind)
          (along_pick (eqb (number_of (take 2 a)) (size u s)) _ (refused other_length) _ (refused other_length) (numbers_along s.places 0 [] (drop 4 a) left) refl)
          refl)

      record_along : Along more k (read_record u s a) (read_record u s (a ++ more))
      record_along = go (present u s) refl
        where
          go : (t : Bool) → present u s ≡ t → Along more k (read_record u s a) (read_record u s (a ++ more))
          go true t = record_there t
          go false t = rw (record_none u s a t, record_none u s (a ++ more) t) (numbers_along s.places 0 [] a (omega (arith, widths_none s.places u s 0 t)))

-- ---- how many bytes the numbers of a record have at most, whatever its district

record Wide (k : ℕ) (f : Field) : Type 0 where
  wide : f.width ≤ k

wide_pick : (k : ℕ) (t : Bool) (f g : Field) → Wide k f → Wide k g → Wide k (pick t f g)
wide_pick k true f g h q = h
wide_pick k false f g h q = q

wide_same : (t : Bool) (a b : ℕ) (f g : Field) → Wide a f → Wide b g → Wide (pick t a b) (pick t f g)
wide_same true a b f g h q = h
wide_same false a b f g h q = q

wide_number : (k w lo hi : ℕ) → w ≤ k → Wide k (number w lo hi)
wide_number k w lo hi h = record { wide = h }

wide_either : (t : Bool) (a b w lo hi : ℕ) → w ≤ a → w ≤ b → Wide (pick t a b) (number w lo hi)
wide_either true a b w lo hi h q = record { wide = h }
wide_either false a b w lo hi h q = record { wide = q }

-- a number of two bytes where the test holds
wide_within : (t q : Bool) (f g : Field) → (q ≡ true → t ≡ true) → Wide 2 f → Wide (pick t 2 1) g → Wide (pick t 2 1) (pick q f g)
wide_within true true f g i h k = h
wide_within false true f g i h k = absurd (cc (i refl))
wide_within t false f g i h k = k

ruleset wides = (tt, lit≤, wide_same, wide_pick, wide_number, wide_either)

abbrev record_most : Slot → ℕ
record_most s = s.places + pick (eqb s.kind 2) 48 (pick (eqb s.kind 4) 48 (pick (eqb s.kind 5) 1 (pick (eqb s.kind 6) 6 0)))

module _ (u : District) where
  -- where the first b have e bytes more than one
  widths_most : (s : Slot) (b e : ℕ) → ((n : ℕ) → Wide (pick (ltb n b) (1 + e) 1) (field_at u s n)) → (m n : ℕ) → widths m u s n ≤ m + e * (b - n)
  widths_most s b e h zero n = omega arith
  widths_most s b e h (suc m) n = go (ltb n b) refl (h n) (widths_most s b e h m (n + 1))
    where
      go : (t : Bool) → ltb n b ≡ t → Wide (pick t (1 + e) 1) (field_at u s n) → widths m u s (n + 1) ≤ m + e * (b - (n + 1)) → widths (suc m) u s n ≤ suc m + e * (b - n)
      go true q w ih =
          let l = ltb-true n b q in
          let less : b - n ≡ suc (b - (n + 1)) = omega arith in
          rw (less, mul-suc) (omega (arith, w.wide))
      go false q w ih =
          let l = ltb-false n b q in
          let less : b - (n + 1) ≡ b - n = omega arith in
          omega (arith, w.wide, rw less at ih)

  pavement_wide : (n : ℕ) → Wide (pick (ltb n minima_at) 2 1) (pavement_field u n)
  pavement_wide n = wide_within (ltb n minima_at) (eqb n 0) _ _ (λ e. lt-ltb n minima_at (omega (arith, eqb-true n 0 e))) (search wides) (search wides depth 10)

  segment_wide : (s : Slot) (n : ℕ) → Wide (pick (ltb n ratings_at) 2 1) (segment_field u s n)
  segment_wide s n =
      wide_within early (eqb n 0) _ _ (at 0 (omega arith)) (search wides)
      (wide_within early (ltb n length_at) _ _ (λ e. lt-ltb n ratings_at (omega (arith, ltb-true n length_at e))) (search wides)
      (wide_within early (eqb n length_at) _ _ (at length_at (omega arith)) (search wides)
      (wide_within early (eqb n width_at) _ _ (at width_at (omega arith)) (search wides)
      (wide_within early (eqb n bars_at) _ _ (at bars_at (omega arith)) (search wides) (search wides depth 10)))))
    where
      early : Bool
      early = ltb n ratings_at

      at : (k : ℕ) → k < ratings_at → eqb n k ≡ true → early ≡ true
      at k h e = lt-ltb n ratings_at (omega (arith, eqb-true n k e))

  count_wide : (form : ℕ) → Form form → (n : ℕ) → Wide (pick (ltb n 0) 1 1) (field_at u (slot form form count_places 0) n)
  unfolding field_at
  count_wide form f n = form_all (λ (g : ℕ). Wide (pick (ltb n 0) 1 1) (field_at u (slot g g count_places 0) n)) (search wides depth 10) (search wides depth 10) form f

  greatest_wide : (form n : ℕ) → Wide (pick (ltb n 0) 1 1) (field_at u (slot form 3 most_distresses 0) n)
  unfolding field_at
  greatest_wide form n =
      let f : Wide (pick (ltb n 0) 1 1) (greatest_field u n) = search wides depth 10 in
      search wides depth 10

  strategy_wide : (form j n : ℕ) → Wide (pick (ltb n gains_at) 4 1) (field_at u (slot form 4 per_strategy j) n)
  unfolding field_at
  strategy_wide form j n = search wides depth 12

  pavement_all : (form y n : ℕ) → Wide (pick (ltb n minima_at) 2 1) (field_at u (slot form 5 per_pavement y) n)
  unfolding field_at
  pavement_all form y n = let f = pavement_wide n in search wides depth 10

  segment_all : (form i n : ℕ) → Wide (pick (ltb n ratings_at) 2 1) (field_at u (slot form 6 per_segment i) n)
  unfolding field_at
  segment_all form i n = let f = segment_wide (slot form 6 per_segment i) n in search wides depth 10

  size_most : (form : ℕ) → Form form → (n : ℕ) → size u (slot_of form n) ≤ record_most (slot_of form n)
  size_most form f =
      slot_all (λ (s : Slot). size u s ≤ record_most s) form
      (omega (arith, widths_most (slot form form count_places 0) 0 0 (count_wide form f) count_places 0))
      (omega (arith, widths_small most_resources u (slot form 2 most_resources 0) 0))
      (omega (arith, widths_most (slot form 3 most_distresses 0) 0 0 (greatest_wide form) most_distresses 0))
      (λ j. omega (arith, widths_most (slot form 4 per_strategy j) gains_at 3 (strategy_wide form j) per_strategy 0))
      (λ y. omega (arith, widths_most (slot form 5 per_pavement y) minima_at 1 (pavement_all form y) per_pavement 0))
      (λ i. omega (arith, widths_most (slot form 6 per_segment i) ratings_at 1 (segment_all form i) per_segment 0))
      (omega arith)

-- ---- a file

-- how many bytes m records of a form have at most, from the n-th on
records_most : ℕ → ℕ → ℕ → ℕ
records_most form zero n = 0
records_most form (suc m) n = 4 + record_most (slot_of form n) + records_most form m (n + 1)

all_most : (form : ℕ) → Form form → records_most form file_records 0 < most_read
unfolding records_most
all_most form f = form_all (λ (g : ℕ). records_most g file_records 0 < most_read) (omega arith) (omega arith) form f

module _ (more : List ℕ) (form : ℕ) (f : Form form) where
  records_along : (m n : ℕ) (u a : List ℕ) → records_most form m n < length a → load_refusal_of (read_records form m n u (a ++ more)) ≡ load_refusal_of (read_records form m n u a)
  unfolding records_most
  records_along zero n u a h = ap load_refusal_of (records_over form n u (a ++ more) (omega (arith, length-append a more)) ∙ sym (records_over form n u a (omega arith)))
  records_along (suc m) n u a h =
      go (read_record u s a) refl (record_along more (records_most form m (n + 1) + 1) u s a (omega (arith, size_most u form f n))) (λ vs rest. records_along m (n + 1) (u ++ vs) rest)
    where
      s : Slot
      s = slot_of form n

      go : (o : Read) → read_record u s a ≡ o → Along more (records_most form m (n + 1) + 1) o (read_record u s (a ++ more))
          → ((vs rest : List ℕ) → records_most form m (n + 1) < length rest → load_refusal_of (read_records form m (n + 1) (u ++ vs) (rest ++ more)) ≡ load_refusal_of (read_records form m (n + 1) (u ++ vs) rest))
          → load_refusal_of (read_records form (suc m) n u (a ++ more)) ≡ load_refusal_of (read_records form (suc m) n u a)
      go (refused k) t e ih = ap load_refusal_of (records_refused form m n u (a ++ more) k e ∙ sym (records_refused form m n u a k t))
      go (found vs rest) t e ih =
          ap load_refusal_of (records_found form m n u (a ++ more) vs (rest ++ more) e.0) ∙ ih vs rest (omega (arith, e.1)) ∙ ap load_refusal_of (sym (records_found form m n u a vs rest t))

-- bytes behind the first 4,096
loads_along : (a more : List ℕ) → length a ≡ most_read → load_refusal (a ++ more) ≡ load_refusal a
unfolding load_refusal decode decode_as
loads_along a more l =
    let form : form_in (a ++ more) ≡ form_in a = rw (kind_along a more (omega arith)) in
    ap (λ (g : ℕ). load_refusal_of (read_records g file_records 0 [] (a ++ more))) form
    ∙ records_along more (form_in a) (form_in_lem a) file_records 0 [] a (omega (arith, all_most (form_in a) (form_in_lem a)))

pub file_front : (file : List ℕ) → load_refusal (take most_read file) ≡ load_refusal file
file_front file = go (leb (length file) most_read) refl
  where
    go : (t : Bool) → leb (length file) most_read ≡ t → load_refusal (take most_read file) ≡ load_refusal file
    go true e = let h = leb-true (length file) most_read e in ap load_refusal (take_all most_read file (omega arith))
    go false e =
        let h : most_read < length file = leb-false (length file) most_read e in
        sym (ap load_refusal (sym (take-append-drop most_read file)) ∙ loads_along (take most_read file) (drop most_read file) (length-take-le most_read file (omega arith)))
