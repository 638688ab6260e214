-- A district in a form's ranges, place by place, which is what the rules' test of its ranges says.
use Prim.Native.Nat.{ℕ, zero, suc, ◌+◌, ◌≤◌, ◌<◌}
use mathlib.Core.Path.{◌≡◌, refl, sym, ap, subst, ◌∙◌}
use mathlib.Core.Bool.{true}
use mathlib.Core.List.{List}
use mathlib.Core.Logic.{⊎_elim}
use native.Mathlib.Nat.{add-zero, zero-add, eq-or-lt_of_le}
use native.Mathlib.Omega.{arith}
use lib.ListN.{length, get_or, drop}
use lib.Seq.{get_or-drop, drop-drop}
use borrow.Author.Tests.{eqb-true, eq-eqb}
use Rattle.std.proofs.lemmas.Bool.{and_parts}
use Rattle.base.proofs.Choice.{and_yes}
use Rattle.rules.specs.District.{District, value_at, district_places}
use Rattle.rules.specs.Format.{leader_form, slot_of, file_records, field_at, inside, Slot}
use Rattle.rules.specs.File.{numbers_in_range, records_in_range, in_range}
use Rattle.grammar.specs.Places.{start_of}
use Rattle.grammar.proofs.Slots.{start_next}

-- each number is one that its field may hold
pub record InRange (form : ℕ) (d : District) : Type 0 where
  pub places : length d ≡ district_places
  pub values : (n i : ℕ) → n < file_records → i < (slot_of form n).places → inside (field_at d (slot_of form n) i) (value_at d (start_of n + i)) ≡ true

-- ---- of one record

module _ (d : District) (s : Slot) where
  numbers_in : (m n : ℕ) (vs : List ℕ) → numbers_in_range m d s n vs ≡ true → (i : ℕ) → i < m → inside (field_at d s (n + i)) (get_or vs i 0) ≡ true
  unfolding numbers_in_range
  numbers_in zero n vs e i h = absurd (omega arith)
  numbers_in (suc m) n vs e zero h = rw add-zero (and_parts (inside (field_at d s n) (get_or vs 0 0)) _ e).0
  numbers_in (suc m) n vs e (suc i) h =
      let q : n + 1 + i ≡ n + suc i = omega arith in
      let r : 1 + i ≡ suc i = omega arith in
      rw (q, get_or-drop 1 vs i 0, r) at (numbers_in m (n + 1) (drop 1 vs) (and_parts (inside (field_at d s n) (get_or vs 0 0)) _ e).1 i (omega arith))

  in_numbers : (m n : ℕ) (vs : List ℕ) → ((i : ℕ) → i < m → inside (field_at d s (n + i)) (get_or vs i 0) ≡ true) → numbers_in_range m d s n vs ≡ true
  unfolding numbers_in_range
  in_numbers zero n vs h = refl
  in_numbers (suc m) n vs h =
      sym (and_yes _ _ true (rw add-zero at (h 0 (omega arith))) (sym (in_numbers m (n + 1) (drop 1 vs) (λ i l. later i l))))
    where
      later : (i : ℕ) → i < m → inside (field_at d s (n + 1 + i)) (get_or (drop 1 vs) i 0) ≡ true
      later i l =
          let q : n + 1 + i ≡ n + suc i = omega arith in
          let r : 1 + i ≡ suc i = omega arith in
          rw (q, get_or-drop 1 vs i 0, r) (h (suc i) (omega arith))

-- ---- of the records from the n-th on

module _ (d : District) where
  abbrev RecordIn : ℕ → Type 0
  RecordIn n = numbers_in_range (slot_of leader_form n).places d (slot_of leader_form n) 0 (drop (start_of n) d) ≡ true

  next_start : (n : ℕ) → drop (slot_of leader_form n).places (drop (start_of n) d) ≡ drop (start_of (n + 1)) d
  next_start n = drop-drop (slot_of leader_form n).places (start_of n) d ∙ ap (λ (p : ℕ). drop p d) (sym (start_next leader_form n))

  records_in : (m n : ℕ) → records_in_range m d n (drop (start_of n) d) ≡ true → (q : ℕ) → n ≤ q → q < n + m → RecordIn q
  unfolding records_in_range
  records_in zero n e q a b = absurd (omega arith)
  records_in (suc m) n e q a b =
      let both = and_parts (numbers_in_range (slot_of leader_form n).places d (slot_of leader_form n) 0 (drop (start_of n) d)) (records_in_range m d (n + 1) (drop (slot_of leader_form n).places (drop (start_of n) d))) e in
      ⊎_elim (λ (z : n ≡ q). subst RecordIn z both.0)
      (λ l. records_in m (n + 1) (rw (next_start n) at both.1) q (omega arith) (omega arith))
      (eq-or-lt_of_le a)

  in_records : (m n : ℕ) → ((q : ℕ) → n ≤ q → q < n + m → RecordIn q) → records_in_range m d n (drop (start_of n) d) ≡ true
  unfolding records_in_range
  in_records zero n h = refl
  in_records (suc m) n h =
      sym (and_yes _ _ true (h n (omega arith) (omega arith)) (sym (rw (next_start n) (in_records m (n + 1) (λ q a b. h q (omega arith) (omega arith))))))

  pub in_range_lem : in_range d ≡ true → InRange leader_form d
  unfolding in_range
  in_range_lem e =
      let both = and_parts _ _ e in
      record { places = eqb-true (length d) district_places both.0; values = λ n i h l. each both.1 n i h l }
    where
      each : records_in_range file_records d 0 d ≡ true → (n i : ℕ) → n < file_records → i < (slot_of leader_form n).places → inside (field_at d (slot_of leader_form n) i) (value_at d (start_of n + i)) ≡ true
      each a n i h l = rw (get_or-drop (start_of n) d i 0, zero-add i) at (numbers_in d (slot_of leader_form n) (slot_of leader_form n).places 0 (drop (start_of n) d) (records_in file_records 0 a n (omega arith) (omega arith)) i l)

  pub range_in : InRange leader_form d → in_range d ≡ true
  unfolding in_range
  range_in ok = sym (and_yes _ _ true (eq-eqb (length d) district_places ok.places) (sym (in_records file_records 0 (λ n a b. each n (omega arith)))))
    where
      each : (n : ℕ) → n < file_records → RecordIn n
      each n h = in_numbers d (slot_of leader_form n) (slot_of leader_form n).places 0 (drop (start_of n) d) (λ i l. rw (zero-add i, get_or-drop (start_of n) d i 0) (ok.values n i h l))
