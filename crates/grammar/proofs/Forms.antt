-- The two forms of a file differ in the leaders alone: what that says of the districts that each may hold.
use Prim.Native.Nat.{ℕ, zero, suc, ◌+◌, ◌-◌, ◌^◌, ◌≤◌, ◌<◌}
use mathlib.Core.Path.{◌≡◌, refl, ap, subst}
use mathlib.Core.Bool.{Bool, true, false}
use mathlib.Core.Logic.{◌⊎◌, inl, inr}
use native.Mathlib.Omega.{arith}
use lib.Dec.{ltb, eqb}
use borrow.Author.Tests.{ltb-true, ltb-false, eqb-true, eq-eqb}
use Rattle.base.proofs.All.{all_at, all_true}
use Rattle.base.proofs.Choice.{pick_all}
use Rattle.base.specs.Choice.{pick}
use Rattle.rules.specs.District.{District, most_segments, most_strategies, most_pavements, leader_at, per_segment, value_at, leader_place, segments_of, leader_of}
use Rattle.rules.specs.File.{leaderless, in_range}
use Rattle.rules.specs.Format.{plain_form, leader_form, number, absent, inside, slot_of, first_strategy_record, first_pavement_record, first_segment_record, last_record, file_records, field_at, Slot}
use Rattle.rules.specs.declared.Field.{Field}
use Rattle.grammar.specs.Places.{Form, Suits, start_of}
use Rattle.grammar.proofs.Bounds.{inside_number, absent_zero}
use Rattle.grammar.proofs.Fits.{value_fits}
use Rattle.grammar.proofs.InRange.{InRange, in_range_lem, range_in}
use Rattle.grammar.proofs.InRanges.{segments}
use Rattle.grammar.proofs.Slots.{form_all, places_same, slot_strategy, slot_pavement, slot_segment, start_segment}

-- ---- the records of each kind

module _ (P : ℕ → Type 0) (a : P 0) (b : P 1) (c : P 2) (strategy : (j : ℕ) → j < most_strategies → P (first_strategy_record + j)) (pavement : (y : ℕ) → y < most_pavements → P (first_pavement_record + y)) (segment : (i : ℕ) → i < most_segments → P (first_segment_record + i)) (last : P last_record) where
  record_all : (n : ℕ) → n < file_records → P n
  record_all zero h = a
  record_all (suc zero) h = b
  record_all (suc (suc zero)) h = c
  record_all (suc (suc (suc n))) h = go (ltb m first_pavement_record) refl (ltb m first_segment_record) refl (ltb m last_record) refl
    where
      m : ℕ
      m = suc (suc (suc n))

      go : (s : Bool) → ltb m first_pavement_record ≡ s → (t : Bool) → ltb m first_segment_record ≡ t → (u : Bool) → ltb m last_record ≡ u → P m
      go true x t y u z = let q : first_strategy_record + n ≡ m = omega arith in subst P q (strategy n (omega (arith, ltb-true m first_pavement_record x)))
      go false x true y u z =
          let l = ltb-false m first_pavement_record x in
          let q : first_pavement_record + (m - first_pavement_record) ≡ m = omega arith in
          subst P q (pavement (m - first_pavement_record) (omega (arith, ltb-true m first_segment_record y)))
      go false x false y true z =
          let l = ltb-false m first_segment_record y in
          let q : first_segment_record + (m - first_segment_record) ≡ m = omega arith in
          subst P q (segment (m - first_segment_record) (omega (arith, ltb-true m last_record z)))
      go false x false y false z = let l = ltb-false m last_record z in let q : last_record ≡ m = omega arith in subst P q last

-- ---- the leaders, and the other numbers

-- the i-th number of the n-th record is a leader
record Leads (n i : ℕ) : Type 0 where
  segment : ℕ
  few : segment < most_segments
  nth : n ≡ first_segment_record + segment
  last : i ≡ leader_at

fields_same : (d : District) (n : ℕ) → n < file_records → (i : ℕ) → i < (slot_of leader_form n).places → (field_at d (slot_of plain_form n) i ≡ field_at d (slot_of leader_form n) i) ⊎ Leads n i
unfolding field_at
fields_same d =
    record_all (λ (n : ℕ). (i : ℕ) → i < (slot_of leader_form n).places → (field_at d (slot_of plain_form n) i ≡ field_at d (slot_of leader_form n) i) ⊎ Leads n i)
    (λ i l. inl refl)
    (λ i l. inl refl)
    (λ i l. inl refl)
    (λ j h i l. inl (rw (slot_strategy plain_form j h, slot_strategy leader_form j h)))
    (λ y h i l. inl (rw (slot_pavement plain_form y h, slot_pavement leader_form y h)))
    (λ k h i l. segment k h i (rw (slot_segment leader_form k h) at l) (ltb i leader_at) refl)
    (λ i l. inl refl)
  where
    segment : (k : ℕ) → k < most_segments → (i : ℕ) → i < per_segment → (t : Bool) → ltb i leader_at ≡ t → (field_at d (slot_of plain_form (first_segment_record + k)) i ≡ field_at d (slot_of leader_form (first_segment_record + k)) i) ⊎ Leads (first_segment_record + k) i
    segment k h i l true e = inl (rw (slot_segment plain_form k h, slot_segment leader_form k h, e))
    segment k h i l false e = inr (record { segment = k; few = h; nth = refl; last = omega (arith, ltb-false i leader_at e) })

module _ (d : District) (k : ℕ) (h : k < most_segments) where
  abbrev n : ℕ
  n = first_segment_record + k

  leader_place_lem : start_of n + leader_at ≡ leader_place (k + 1)
  leader_place_lem = omega (arith, start_segment k (omega arith))

  leader_there : leader_at < (slot_of leader_form n).places
  leader_there = omega (arith, ap (λ (s : Slot). s.places) (slot_segment leader_form k h))

  plain_leader : field_at d (slot_of plain_form n) leader_at ≡ absent
  unfolding field_at
  plain_leader = rw (slot_segment plain_form k h) (pick_all (λ (f : Field). f ≡ absent) (ltb k (segments_of d)) absent absent refl refl)

  led_leader : field_at d (slot_of leader_form n) leader_at ≡ pick (ltb k (segments_of d)) (number 1 0 k) absent
  unfolding field_at
  led_leader = rw (slot_segment leader_form k h)

  -- a segment without a leader holds 0 for it, in both forms
  none_inside : inside (field_at d (slot_of leader_form n) leader_at) 0 ≡ true
  none_inside = rw led_leader (pick_all (λ (f : Field). inside f 0 ≡ true) (ltb k (segments_of d)) (number 1 0 k) absent (inside_number 1 0 k 0 (omega arith) (omega arith)) (inside_number 0 0 0 0 (omega arith) (omega arith)))

  -- one that the district does not have, has none
  no_segment_lem : InRange leader_form d → ltb k (segments_of d) ≡ false → value_at d (start_of n + leader_at) ≡ 0
  no_segment_lem ok e = absent_zero _ (rw (led_leader, e) at (ok.values n leader_at (omega arith) leader_there))

-- ---- the plain form holds what the other holds, but no leader

module _ (d : District) where
  none_led : InRange leader_form d → leaderless d ≡ true → (k : ℕ) → k < most_segments → (t : Bool) → ltb k (segments_of d) ≡ t → value_at d (start_of (first_segment_record + k) + leader_at) ≡ 0
  unfolding leaderless leader_of
  none_led ok none k h true e =
      rw (leader_place_lem d k h) (eqb-true (leader_of d (k + 1)) 0 (all_at (segments_of d) (λ (i : ℕ). eqb (leader_of d i) 0) none (k + 1) (omega arith) (omega (arith, ltb-true k (segments_of d) e))))
  none_led ok none k h false e = no_segment_lem d k h ok e

  plain_range : InRange leader_form d → leaderless d ≡ true → InRange plain_form d
  plain_range ok none = record { places = ok.places; values = λ n i h l. let l' = rw (places_same plain_form n) at l in each n i h l' (fields_same d n h i l') }
    where
      each : (n i : ℕ) → n < file_records → i < (slot_of leader_form n).places → (field_at d (slot_of plain_form n) i ≡ field_at d (slot_of leader_form n) i) ⊎ Leads n i → inside (field_at d (slot_of plain_form n) i) (value_at d (start_of n + i)) ≡ true
      each n i h l (inl e) = rw e (ok.values n i h l)
      each n i h l (inr r) = let k = r.segment in rw (r.nth, r.last, plain_leader d k r.few, none_led ok none k r.few (ltb k (segments_of d)) refl) (inside_number 0 0 0 0 (omega arith) (omega arith))

  module _ (ok : InRange plain_form d) where
    plain_none : (k : ℕ) → k < most_segments → value_at d (start_of (first_segment_record + k) + leader_at) ≡ 0
    plain_none k h = absent_zero _ (rw (plain_leader d k h) at (ok.values (first_segment_record + k) leader_at (omega arith) (rw (places_same plain_form (first_segment_record + k)) (leader_there d k h))))

    led_range : InRange leader_form d
    led_range = record { places = ok.places; values = λ n i h l. each n i h l (fields_same d n h i l) }
      where
        each : (n i : ℕ) → n < file_records → i < (slot_of leader_form n).places → (field_at d (slot_of plain_form n) i ≡ field_at d (slot_of leader_form n) i) ⊎ Leads n i → inside (field_at d (slot_of leader_form n) i) (value_at d (start_of n + i)) ≡ true
        each n i h l (inl e) = rw (← e) (ok.values n i h (rw (places_same plain_form n) l))
        each n i h l (inr r) = rw (r.nth, r.last, plain_none r.segment r.few) (none_inside d r.segment r.few)

    plain_leaderless : leaderless d ≡ true
    unfolding leaderless leader_of
    plain_leaderless = all_true (segments_of d) (λ (i : ℕ). eqb (leader_of d i) 0) (λ i a b. eq-eqb (leader_of d i) 0 (zero i a (omega (arith, (segments d led_range).1))))
      where
        zero : (i : ℕ) → 1 ≤ i → i ≤ most_segments → value_at d (leader_place i) ≡ 0
        zero i a b = let e : i - 1 + 1 ≡ i = omega arith in rw (leader_place_lem d (i - 1) (omega arith), e) at (plain_none (i - 1) (omega arith))

    plain_fits : (n i : ℕ) → n < file_records → i < (slot_of leader_form n).places → (field_at d (slot_of plain_form n) i ≡ field_at d (slot_of leader_form n) i) ⊎ Leads n i → value_at d (start_of n + i) < 256 ^ (field_at d (slot_of plain_form n) i).width
    plain_fits n i h l (inl e) = rw e (value_fits d led_range n i h l)
    plain_fits n i h l (inr r) = let k = r.segment in rw (r.nth, r.last, plain_leader d k r.few, plain_none k r.few) (omega arith)

-- ---- of each form

-- a district in the file's ranges has its numbers in those of a form that has room for its leaders,
pub form_range : (form : ℕ) → Form form → (d : District) → in_range d ≡ true → Suits form d → InRange form d
form_range form f d e = form_all (λ (g : ℕ). Suits g d → InRange g d) (λ s. plain_range d (in_range_lem d e) (s refl)) (λ s. in_range_lem d e) form f

-- and the other way round
pub range_form : (form : ℕ) → Form form → (d : District) → InRange form d → (in_range d ≡ true) × Suits form d
range_form form f d =
    form_all (λ (g : ℕ). InRange g d → (in_range d ≡ true) × Suits g d)
    (λ ok. (range_in d (led_range d ok), λ e. plain_leaderless d ok))
    (λ ok. (range_in d ok, λ e. absurd (omega arith)))
    form
    f

pub form_fits : (form : ℕ) → Form form → (d : District) → InRange form d → (n i : ℕ) → n < file_records → i < (slot_of form n).places → value_at d (start_of n + i) < 256 ^ (field_at d (slot_of form n) i).width
form_fits form f d =
    form_all (λ (g : ℕ). InRange g d → (n i : ℕ) → n < file_records → i < (slot_of g n).places → value_at d (start_of n + i) < 256 ^ (field_at d (slot_of g n) i).width)
    (λ ok n i h l. let l' = rw (places_same plain_form n) at l in plain_fits d ok n i h l' (fields_same d n h i l'))
    (value_fits d)
    form
    f
