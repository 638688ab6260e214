-- A number that its field may hold fits the field's bytes.
use Prim.Native.Nat.{ℕ, zero, suc, ◌+◌, ◌-◌, ◌^◌, ◌<◌, min}
use mathlib.Core.Path.{◌≡◌, refl}
use mathlib.Core.Bool.{Bool, true}
use native.Mathlib.Nat.{min-le_right}
use native.Mathlib.Omega.{arith}
use lib.Dec.{leb, ltb, lit<}
use lib.Pow.{pow_mono}
use borrow.Author.Tests.{le-leb, ltb-true}
use Rattle.base.proofs.Choice.{pick_all, pick_by}
use Rattle.base.specs.Choice.{pick}
use Rattle.rules.specs.District.{District, most_segments, most_distresses, ratings_at, leader_at, per_segment, value_at, strategies_of, pavements_of, segments_of, greatest_of}
use Rattle.rules.specs.Format.{leader_form, number, absent, inside, slot, slot_of, file_records, count_field, limit_field, greatest_field, strategy_field, pavement_field, rating_field, segment_field, field_at, Slot}
use Rattle.rules.specs.declared.Field.{Field}
use Rattle.grammar.specs.Places.{start_of}
use Rattle.grammar.proofs.InRange.{InRange}
use Rattle.grammar.proofs.Bounds.{between_number, inside_between, gain_byte}
use Rattle.grammar.proofs.InRanges.{segments, pavements, greatest}
use Rattle.grammar.proofs.Slots.{slot_all}

record Fit (x : ℕ) (f : Field) : Type 0 where
  fit : inside f x ≡ true → x < 256 ^ f.width

-- `pick_all` at this property, as in Bounds and Slots at theirs: listed itself in a ruleset, `search` does not find the property
fit_pick : (x : ℕ) (t : Bool) (f g : Field) → Fit x f → Fit x g → Fit x (pick t f g)
fit_pick x t f g h k = pick_all (Fit x) t f g h k

fit_number : (x w lo hi : ℕ) → leb lo hi ≡ true → hi < 256 ^ w → Fit x (number w lo hi)
fit_number x w lo hi s h =
    record { fit = λ e. omega (arith, (inside_between lo hi (number w lo hi) x (between_number lo hi w lo hi s (omega arith) (omega arith)) e).1) }

fit_gain : (x : ℕ) → Fit x (number 1 206 50)
fit_gain x = record { fit = gain_byte x }

ruleset fits = (tt, refl, lit<, fit_pick, fit_number, fit_gain)

count_fit : (x n : ℕ) → Fit x (count_field n)
count_fit x zero = search fits
count_fit x (suc zero) = search fits
count_fit x (suc (suc zero)) = search fits
count_fit x (suc (suc (suc zero))) = search fits
count_fit x (suc (suc (suc (suc zero)))) = search fits
count_fit x (suc (suc (suc (suc (suc zero))))) = search fits
count_fit x (suc (suc (suc (suc (suc (suc n)))))) = search fits

module _ (d : District) (ok : InRange leader_form d) (x : ℕ) where
  rating_fit : (n : ℕ) → n < most_distresses → Fit x (rating_field d n)
  rating_fit n h =
      let g = greatest_of d (n + 1) in
      let least : leb 0 g ≡ true = le-leb 0 g (omega arith) in
      let most : g < 256 ^ 1 = omega (arith, greatest d ok (n + 1) (omega arith) (omega arith)) in
      search fits depth 12

  segment_fit : (i n : ℕ) → i < most_segments → Fit x (segment_field d (slot leader_form 6 per_segment i) n)
  segment_fit i n l =
      let Y = pavements_of d in
      let some : leb 1 Y ≡ true = le-leb 1 Y (pavements d ok).0 in
      let few : Y < 256 ^ 1 = omega (arith, (pavements d ok).1) in
      let mask = 2 ^ min (strategies_of d) 16 - 1 in
      let bits : leb 0 mask ≡ true = le-leb 0 mask (omega arith) in
      let wide : mask < 256 ^ 2 = omega (arith, pow_mono {i = min (strategies_of d) 16} {j = 16} (min-le_right (strategies_of d) 16)) in
      let leader : Fit x (number 1 0 i) = fit_number x 1 0 i (le-leb 0 i (omega arith)) (omega arith) in
      let last = pick_by (Fit x) (ltb n leader_at) (rating_field d (n - ratings_at)) (number 1 0 i) (λ e. rating_fit (n - ratings_at) (omega (arith, ltb-true n leader_at e))) leader in
      search fits depth 12

  field_fit : (m n : ℕ) → n < (slot_of leader_form m).places → Fit x (field_at d (slot_of leader_form m) n)
  unfolding field_at
  field_fit =
      slot_all (λ (s : Slot). (n : ℕ) → n < s.places → Fit x (field_at d s n)) leader_form
      (λ n h. count_fit x n)
      (λ n h. let f : Fit x (limit_field d n) = search fits depth 10 in f)
      (λ n h. let f : Fit x (greatest_field d n) = search fits depth 10 in f)
      (λ j n h. let f : Fit x (strategy_field d n) = search fits depth 10 in fit_pick x (ltb j (strategies_of d)) (strategy_field d n) absent f none)
      (λ y n h. let f : Fit x (pavement_field d n) = search fits depth 10 in fit_pick x (ltb y (pavements_of d)) (pavement_field d n) absent f none)
      (λ i n h. pick_by (Fit x) (ltb i (segments_of d)) (segment_field d (slot leader_form 6 per_segment i) n) absent (λ e. segment_fit i n (omega (arith, ltb-true i (segments_of d) e, (segments d ok).1))) none)
      (λ n h. absurd (omega arith))
    where
      none : Fit x absent
      none = fit_number x 0 0 0 refl (omega arith)

pub value_fits : (d : District) → InRange leader_form d → (n i : ℕ) → n < file_records → i < (slot_of leader_form n).places → value_at d (start_of n + i) < 256 ^ (field_at d (slot_of leader_form n) i).width
value_fits d ok n i h l = (field_fit d ok (value_at d (start_of n + i)) n i l).fit (ok.values n i h l)
