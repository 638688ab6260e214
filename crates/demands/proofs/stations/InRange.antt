-- The shared tables of a district in the file's ranges are a district in these ranges, without a segment.
use Prim.Native.Nat.{ℕ, zero, suc, ◌+◌, ◌-◌, ◌*◌, ◌≤◌, ◌<◌}
use mathlib.Core.Path.{◌≡◌, refl, ap, ◌∙◌}
use mathlib.Core.Bool.{Bool, true, false}
use native.Mathlib.Nat.{zero-add}
use native.Mathlib.Omega.{arith}
use borrow.Author.Tests.{le-leb, lt-leb, le-ltb, ltb-true, ltb-false}
use lib.Dec.{ltb}
use Rattle.base.specs.Choice.{pick}
use Rattle.rules.specs.District.{District, most_strategies, most_pavements, most_segments, most_resources, most_distresses, count_places, greatest_at, strategies_at, per_strategy, pavements_at, per_pavement, segments_at, per_segment, value_at, resources_of, is_shared, shared_tables}
use Rattle.rules.specs.File.{in_range}
use Rattle.rules.specs.Format.{leader_form, number, absent, inside, ranged, slot, slot_of, first_strategy_record, first_pavement_record, first_segment_record, last_record, file_records, field_at, Slot}
use Rattle.grammar.specs.Places.{start_of}
use Rattle.grammar.proofs.InRange.{InRange, in_range_lem, range_in}
use Rattle.grammar.proofs.Slots.{slot_strategy, slot_pavement, slot_segment, start_strategy, start_pavement, start_segment}
use Rattle.shared.proofs.Tables.{shared_value, own_value, tables_length, limits_own, segments_own}

counts_shared : (place : ℕ) → 1 ≤ place → place < count_places → is_shared place ≡ true
unfolding is_shared
counts_shared place l h = rw (le-leb 1 place l, le-leb place 5 (omega arith))

tables_shared : (place : ℕ) → greatest_at ≤ place → place < segments_at → is_shared place ≡ true
unfolding is_shared
tables_shared place l h = rw (le-leb 1 place (omega arith), lt-leb place 5 (omega arith), le-leb 22 place (omega arith), le-leb place 1659 (omega arith))

module _ (d : District) (ok : InRange leader_form d) where
  abbrev t : District
  t = shared_tables d

  -- the counts other than N stay, and N is 0
  none : value_at t 0 ≡ 0
  unfolding is_shared
  none = own_value d 0 refl

  count : (n : ℕ) → 1 ≤ n → n < count_places → value_at t n ≡ value_at d n
  count n l h = shared_value d n (counts_shared n l h)

  -- number i of the record s, which stands from a place on
  abbrev Fits : Slot → ℕ → ℕ → Type 0
  Fits s place i = inside (field_at t s i) (value_at t (place + i)) ≡ true

  -- of tables: field and number are the same
  kept :
      (s : Slot) (place i : ℕ) → greatest_at ≤ place + i → place + i < segments_at → field_at t s i ≡ field_at d s i
      → inside (field_at d s i) (value_at d (place + i)) ≡ true → Fits s place i
  kept s place i l h same good = rw (same, shared_value d (place + i) (tables_shared (place + i) l h)) good

  greatest_fits : (i : ℕ) → i < most_distresses → Fits (slot leader_form 3 most_distresses 0) 22 i
  unfolding field_at
  greatest_fits i h = kept (slot leader_form 3 most_distresses 0) 22 i (omega arith) (omega arith) (simp (count 3 (omega arith) (omega arith))) (ok.values 2 i (omega arith) h)

  strategy_fits : (j i : ℕ) → j < most_strategies → i < per_strategy → Fits (slot leader_form 4 per_strategy j) (strategies_at + per_strategy * j) i
  unfolding field_at
  strategy_fits j i l h =
      let e = slot_strategy leader_form j l in
      kept (slot leader_form 4 per_strategy j) (strategies_at + per_strategy * j) i (omega arith) (omega arith)
      (simp (count 1 (omega arith) (omega arith), count 2 (omega arith) (omega arith), count 3 (omega arith) (omega arith), count 5 (omega arith) (omega arith)))
      (rw (e, start_strategy j (omega arith)) at (ok.values (first_strategy_record + j) i (omega arith) (omega (arith, ap (λ (s : Slot). s.places) e))))

  pavement_fits : (y i : ℕ) → y < most_pavements → i < per_pavement → Fits (slot leader_form 5 per_pavement y) (pavements_at + per_pavement * y) i
  unfolding field_at
  pavement_fits y i l h =
      let e = slot_pavement leader_form y l in
      kept (slot leader_form 5 per_pavement y) (pavements_at + per_pavement * y) i (omega arith) (omega arith)
      (simp (count 2 (omega arith) (omega arith), count 3 (omega arith) (omega arith), count 4 (omega arith) (omega arith)))
      (rw (e, start_pavement y (omega arith)) at (ok.values (first_pavement_record + y) i (omega arith) (omega (arith, ap (λ (s : Slot). s.places) e))))

  -- all else is 0: N, limits, and the segments that are not there
  count_fits : (i : ℕ) → i < count_places → Fits (slot leader_form leader_form count_places 0) 0 i
  unfolding field_at ranged
  count_fits zero h = rw none
  count_fits (suc i) h = rw (zero-add, count (suc i) (omega arith) h) (rw zero-add at (ok.values 0 (suc i) (omega arith) h))

  limit_fits : (i : ℕ) → i < most_resources → Fits (slot leader_form 2 most_resources 0) 6 i
  unfolding field_at ranged
  limit_fits i h = rw (own_value d (6 + i) (limits_own (6 + i) (omega arith) (omega arith))) (go (ltb i (resources_of t)))
    where
      go : (b : Bool) → inside (pick b (number 4 0 999_999_999) absent) 0 ≡ true
      go true = refl
      go false = refl

  segment_fits : (n i : ℕ) → Fits (slot leader_form 6 per_segment n) (segments_at + per_segment * n) i
  unfolding field_at ranged
  segment_fits n i =
      rw (own_value d (segments_at + per_segment * n + i) (segments_own (segments_at + per_segment * n + i) (omega arith)), none, le-ltb n 0 (omega arith))

  -- ---- every record

  abbrev RecordFits : ℕ → Type 0
  RecordFits m = (i : ℕ) → i < (slot_of leader_form m).places → Fits (slot_of leader_form m) (start_of m) i

  strategy_record_lem : (j : ℕ) → j < most_strategies → RecordFits (first_strategy_record + j)
  strategy_record_lem j h i l =
      let e = slot_strategy leader_form j h in
      rw (e, start_strategy j (omega arith)) (strategy_fits j i h (omega (arith, ap (λ (s : Slot). s.places) e)))

  pavement_record_lem : (y : ℕ) → y < most_pavements → RecordFits (first_pavement_record + y)
  pavement_record_lem y h i l =
      let e = slot_pavement leader_form y h in
      rw (e, start_pavement y (omega arith)) (pavement_fits y i h (omega (arith, ap (λ (s : Slot). s.places) e)))

  segment_record : (n : ℕ) → n < most_segments → RecordFits (first_segment_record + n)
  segment_record n h i l = rw (slot_segment leader_form n h, start_segment n (omega arith)) (segment_fits n i)

  -- the record that stands b + n-th
  at : (b m : ℕ) → b ≤ m → RecordFits (b + (m - b)) → RecordFits m
  at b m h r = let e : b + (m - b) ≡ m = omega arith in rw e at r

  later : (m : ℕ) → first_strategy_record ≤ m → m < file_records → RecordFits m
  later m l h = go (ltb m first_pavement_record) refl (ltb m first_segment_record) refl (ltb m last_record) refl
    where
      go : (p : Bool) → ltb m first_pavement_record ≡ p → (q : Bool) → ltb m first_segment_record ≡ q → (r : Bool) → ltb m last_record ≡ r → RecordFits m
      go true e q f r g = at first_strategy_record m l (strategy_record_lem (m - first_strategy_record) (omega (arith, ltb-true m first_pavement_record e)))
      go false e true f r g =
          let b = ltb-false m first_pavement_record e in
          at first_pavement_record m b (pavement_record_lem (m - first_pavement_record) (omega (arith, ltb-true m first_segment_record f)))
      go false e false f true g =
          let b = ltb-false m first_segment_record f in
          at first_segment_record m b (segment_record (m - first_segment_record) (omega (arith, ltb-true m last_record g)))
      go false e false f false g = let z : m ≡ last_record = omega (arith, ltb-false m last_record g) in rw z (λ i x. absurd (omega arith))

  fits : (m : ℕ) → m < file_records → RecordFits m
  fits zero h = count_fits
  fits (suc zero) h = limit_fits
  fits (suc (suc zero)) h = greatest_fits
  fits (suc (suc (suc k))) h = later (suc (suc (suc k))) (omega arith) h

pub tables_in_range : (d : District) → in_range d ≡ true → in_range (shared_tables d) ≡ true
unfolding shared_tables
tables_in_range d ok = let r = in_range_lem d ok in range_in (shared_tables d) (record { places = tables_length d ∙ r.places; values = λ m i h l. fits d r m h i l })
