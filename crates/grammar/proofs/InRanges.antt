-- Every range fact that the arithmetic needs, of a district in the file's ranges.
use Prim.Native.Nat.{ℕ, ◌+◌, ◌-◌, ◌*◌, ◌^◌, ◌≤◌, ◌<◌, min}
use mathlib.Core.Path.{◌≡◌, refl, sym, ap, subst}
use mathlib.Core.Bool.{Bool, true}
use native.Mathlib.Nat.{zero-add, add-zero, min-le_right}
use native.Mathlib.Omega.{arith}
use lib.Dec.{leb, ltb}
use lib.Pow.{pow_mono}
use lib.IntN.{nat_abs}
use borrow.Author.Tests.{le-leb, lt-ltb, le-ltb, ne_eqb}
use Rattle.base.proofs.Choice.{pick_all}
use Rattle.base.specs.Bytes.{signed}
use Rattle.base.specs.Choice.{pick}
use Rattle.rules.specs.District.{District, most_segments, most_strategies, most_years, most_distresses, most_pavements, most_resources, count_places, gains_at, percents_at, per_strategy, minima_at, per_pavement, traffic_at, environment_at, length_at, width_at, bars_at, ratings_at, leader_at, per_segment, value_at, strategy_place, pavement_place, segment_place, segments_of, strategies_of, years_of, distresses_of, pavements_of, resources_of, limit_of, greatest_of, requirement_of, gain_of, percent_of, overall_of, minimum_of, pavement_of, traffic_of, environment_of, length_of, width_of, bars_of, rating_of, leader_of}
use Rattle.rules.specs.Format.{leader_form, number, absent, inside, slot, first_strategy_record, first_pavement_record, first_segment_record, file_records, slot_of, present, limit_field, greatest_field, rows_field, strategy_field, pavement_field, segment_field, kind_field, field_at, Slot}
use Rattle.rules.specs.File.{in_range}
use Rattle.rules.specs.declared.Field.{Field}
use Rattle.grammar.specs.Places.{start_of}
use Rattle.grammar.specs.Ranges.{Ranges}
use Rattle.grammar.proofs.Slots.{slot_strategy, slot_pavement, slot_segment, start_strategy, start_pavement, start_segment}
use Rattle.grammar.proofs.InRange.{InRange, in_range_lem}
use Rattle.grammar.proofs.Bounds.{Between, between_pick, between_number, betweens, inside_between, absent_zero, gain_most, segment_rating, rating_between}

abbrev segment_slot : ℕ → Slot
segment_slot i = slot leader_form 6 per_segment (i - 1)

module _ (d : District) (ok : InRange leader_form d) where
  -- ---- the numbers of one record, at the district's own places

  -- of the m-th record of the file, s, which starts at the place p
  record_in : (m n p : ℕ) (s : Slot) → m < file_records → slot_of leader_form m ≡ s → start_of m ≡ p → n < s.places → inside (field_at d s n) (value_at d (p + n)) ≡ true
  record_in m n p s h e q l = rw (e, q) at (ok.values m n h (omega (arith, ap (λ (s : Slot). s.places) e)))

  strategy_in : (j n : ℕ) → 1 ≤ j → j ≤ most_strategies → n < per_strategy → inside (field_at d (slot leader_form 4 per_strategy (j - 1)) n) (value_at d (strategy_place j + n)) ≡ true
  strategy_in j n a b =
      record_in (first_strategy_record + (j - 1)) n (strategy_place j) (slot leader_form 4 per_strategy (j - 1)) (omega arith) (slot_strategy leader_form (j - 1) (omega arith)) (start_strategy (j - 1) (omega arith))

  pavement_in : (y n : ℕ) → 1 ≤ y → y ≤ most_pavements → n < per_pavement → inside (field_at d (slot leader_form 5 per_pavement (y - 1)) n) (value_at d (pavement_place y + n)) ≡ true
  pavement_in y n a b =
      record_in (first_pavement_record + (y - 1)) n (pavement_place y) (slot leader_form 5 per_pavement (y - 1)) (omega arith) (slot_pavement leader_form (y - 1) (omega arith)) (start_pavement (y - 1) (omega arith))

  segment_in : (i n : ℕ) → 1 ≤ i → i ≤ most_segments → n < per_segment → inside (field_at d (segment_slot i) n) (value_at d (segment_place i + n)) ≡ true
  segment_in i n a b =
      record_in (first_segment_record + (i - 1)) n (segment_place i) (segment_slot i) (omega arith) (slot_segment leader_form (i - 1) (omega arith)) (start_segment (i - 1) (omega arith))

  -- ---- counts, limits and greatest ratings

  count_in : (n lo hi : ℕ) → n < count_places → leb lo hi ≡ true → field_at d (slot leader_form leader_form count_places 0) n ≡ number 1 lo hi → (lo ≤ value_at d n) × (value_at d n ≤ hi)
  count_in n lo hi h s e = inside_between lo hi (number 1 lo hi) (value_at d n) (between_number lo hi 1 lo hi s (omega arith) (omega arith)) (rw (e, zero-add n) at (ok.values 0 n (omega arith) h))

  pub segments : (0 ≤ segments_of d) × (segments_of d ≤ most_segments)
  unfolding field_at
  segments = count_in 0 0 most_segments (omega arith) refl refl

  pub strategies : (1 ≤ strategies_of d) × (strategies_of d ≤ most_strategies)
  unfolding field_at
  strategies = count_in 1 1 most_strategies (omega arith) refl refl

  pub years : (1 ≤ years_of d) × (years_of d ≤ most_years)
  unfolding field_at
  years = count_in 2 1 most_years (omega arith) refl refl

  pub distresses : (1 ≤ distresses_of d) × (distresses_of d ≤ most_distresses)
  unfolding field_at
  distresses = count_in 3 1 most_distresses (omega arith) refl refl

  pub pavements : (1 ≤ pavements_of d) × (pavements_of d ≤ most_pavements)
  unfolding field_at
  pavements = count_in 4 1 most_pavements (omega arith) refl refl

  pub resources : (1 ≤ resources_of d) × (resources_of d ≤ most_resources)
  unfolding field_at
  resources = count_in 5 1 most_resources (omega arith) refl refl

  -- a field that a record of its kind has, or none
  at_most : (b : ℕ) (s : Slot) (n x : ℕ) → Between 0 b (kind_field d s n) → inside (field_at d s n) x ≡ true → x ≤ b
  unfolding field_at
  at_most b s n x h e = (inside_between 0 b (field_at d s n) x (between_pick 0 b (present d s) (kind_field d s n) absent h (between_number 0 b 0 0 0 refl (omega arith) (omega arith))) e).1

  rows : (most n : ℕ) → Between 0 most (rows_field d most n)
  rows most n =
      let e = le-leb 0 most (omega arith) in
      let h : 0 ≤ most = omega arith in
      let k : most ≤ most = omega arith in
      search betweens depth 10

  -- of the row of a distress type, the number of a year
  in_row : (most first p k t : ℕ) (s : Slot) → let n = first + most_years * (k - 1) + (t - 1) in kind_field d s n ≡ rows_field d most (n - first) → inside (field_at d s n) (value_at d (p + n)) ≡ true → value_at d (p + first + most_years * (k - 1) + (t - 1)) ≤ most
  in_row most first p k t s e i =
      let n = first + most_years * (k - 1) + (t - 1) in
      let same : p + n ≡ p + first + most_years * (k - 1) + (t - 1) = omega arith in
      rw same at (at_most most s n (value_at d (p + n)) (rw e (rows most (n - first))) i)

  limit : (r : ℕ) → 1 ≤ r → r ≤ most_resources → limit_of d r ≤ 999_999_999
  unfolding limit_of
  limit r a b =
      let f : Between 0 999_999_999 (limit_field d (r - 1)) = search betweens depth 10 in
      at_most 999_999_999 (slot leader_form 2 most_resources 0) (r - 1) (limit_of d r) f (ok.values 1 (r - 1) (omega arith) (omega arith))

  pub greatest : (k : ℕ) → 1 ≤ k → k ≤ most_distresses → greatest_of d k ≤ 50
  unfolding greatest_of
  greatest k a b =
      let f : Between 0 50 (greatest_field d (k - 1)) = search betweens depth 10 in
      at_most 50 (slot leader_form 3 most_distresses 0) (k - 1) (greatest_of d k) f (ok.values 2 (k - 1) (omega arith) (omega arith))

  -- ---- strategies

  requirement : (j r : ℕ) → 1 ≤ j → j ≤ most_strategies → 1 ≤ r → r ≤ most_resources → requirement_of d j r ≤ 999_999
  unfolding requirement_of
  requirement j r a b p q =
      let g : Between 0 999_999 (pick (ltb (r - 1) (resources_of d)) (number 4 0 999_999) absent) = search betweens depth 10 in
      let f : Between 0 999_999 (strategy_field d (r - 1)) = rw (lt-ltb (r - 1) gains_at (omega arith)) g in
      at_most 999_999 (slot leader_form 4 per_strategy (j - 1)) (r - 1) (requirement_of d j r) f (strategy_in j (r - 1) a b (omega arith))

  percent : (j k t : ℕ) → 1 ≤ j → j ≤ most_strategies → 1 ≤ k → k ≤ most_distresses → 1 ≤ t → t ≤ most_years → percent_of d j k t ≤ 100
  unfolding percent_of
  percent j k t a b p q v w =
      let n = percents_at + most_years * (k - 1) + (t - 1) in
      in_row 100 percents_at (strategy_place j) k t (slot leader_form 4 per_strategy (j - 1)) (rw (le-ltb n gains_at (omega arith), le-ltb n percents_at (omega arith)) refl) (strategy_in j n a b (omega arith))

  -- ---- pavement types

  overall : (y : ℕ) → 1 ≤ y → y ≤ most_pavements → overall_of d y ≤ 450
  unfolding overall_of
  overall y a b =
      let f : Between 0 450 (pavement_field d 0) = between_number 0 450 2 0 450 refl (omega arith) (omega arith) in
      at_most 450 (slot leader_form 5 per_pavement (y - 1)) 0 (overall_of d y) f (rw add-zero at (pavement_in y 0 a b (omega arith)))

  minimum : (y k t : ℕ) → 1 ≤ y → y ≤ most_pavements → 1 ≤ k → k ≤ most_distresses → 1 ≤ t → t ≤ most_years → minimum_of d y k t ≤ 50
  unfolding minimum_of
  minimum y k t a b p q v w =
      let n = minima_at + most_years * (k - 1) + (t - 1) in
      in_row 50 minima_at (pavement_place y) k t (slot leader_form 5 per_pavement (y - 1)) (rw (ne_eqb n 0 (λ z. omega arith)) refl) (pavement_in y n a b (omega arith))

  -- ---- segments

  some_type : (i : ℕ) → 1 ≤ i → i ≤ segments_of d → 1 ≤ pavement_of d i
  unfolding pavement_of field_at
  some_type i a b =
      let f : Between 1 most_pavements (segment_field d (segment_slot i) 0) = between_number 1 most_pavements 1 1 (pavements_of d) (le-leb 1 (pavements_of d) pavements.0) (omega arith) pavements.1 in
      (inside_between 1 most_pavements (segment_field d (segment_slot i) 0) (pavement_of d i) f (rw (lt-ltb (i - 1) (segments_of d) (omega arith), add-zero) at (segment_in i 0 a (omega (arith, segments.1)) (omega arith)))).0

  -- one with a range of its own
  plain : (i n lo hi w : ℕ) → 1 ≤ i → i ≤ most_segments → n < per_segment → leb lo hi ≡ true → segment_field d (segment_slot i) n ≡ number w lo hi → value_at d (segment_place i + n) ≤ hi
  plain i n lo hi w a b h s e =
      let f : Between 0 hi (segment_field d (segment_slot i) n) = rw e (between_number 0 hi w lo hi s (omega arith) (omega arith)) in
      at_most hi (segment_slot i) n (value_at d (segment_place i + n)) f (segment_in i n a b h)

  pavement : (i : ℕ) → 1 ≤ i → i ≤ most_segments → pavement_of d i ≤ most_pavements
  unfolding pavement_of
  pavement i a b =
      let p : pavement_of d i ≤ pavements_of d = rw add-zero at (plain i 0 1 (pavements_of d) 1 a b (omega arith) (le-leb 1 (pavements_of d) pavements.0) refl) in
      omega (arith, p, pavements.1)

  pub bars_most : (i : ℕ) → 1 ≤ i → i ≤ most_segments → bars_of d i ≤ 2 ^ min (strategies_of d) 16 - 1
  unfolding bars_of
  bars_most i a b = plain i bars_at 0 (2 ^ min (strategies_of d) 16 - 1) 2 a b (omega arith) (le-leb 0 (2 ^ min (strategies_of d) 16 - 1) (omega arith)) refl

  bars : (i : ℕ) → 1 ≤ i → i ≤ most_segments → bars_of d i < 2 ^ 16
  bars i a b = omega (arith, bars_most i a b, pow_mono {i = min (strategies_of d) 16} {j = 16} (min-le_right (strategies_of d) 16))

  rating : (i k : ℕ) → 1 ≤ i → i ≤ most_segments → 1 ≤ k → k ≤ most_distresses → rating_of d i k ≤ greatest_of d k
  unfolding rating_of
  rating i k a b p q =
      let n = ratings_at + (k - 1) in
      let g = greatest_of d k in
      let c : segment_place i + n ≡ segment_place i + ratings_at + (k - 1) = omega arith in
      let f : Between 0 g (segment_field d (segment_slot i) n) = rw (segment_rating d (segment_slot i) k p q) (rating_between d k p) in
      at_most g (segment_slot i) n (rating_of d i k) f (rw c at (segment_in i n a b (omega arith)))

  mile_length : (i : ℕ) → 1 ≤ i → i ≤ most_segments → length_of d i ≤ 9_999
  unfolding length_of
  mile_length i a b = plain i length_at 1 9_999 2 a b (omega arith) refl refl

  leader : (i : ℕ) → 1 ≤ i → i ≤ most_segments → leader_of d i < i
  unfolding leader_of
  leader i a b = omega (arith, plain i leader_at 0 (i - 1) 1 a b (omega arith) (le-leb 0 (i - 1) (omega arith)) refl)

-- ---- gains

abbrev Gain : ℕ → Field → Type 0
Gain x f = inside f x ≡ true → nat_abs (signed x) ≤ 50

gain_picked : (x : ℕ) (s t : Bool) → Gain x (pick s (pick t (number 1 206 50) absent) absent)
gain_picked x s t =
    let none : Gain x absent = λ e. rw (absent_zero x e) (omega arith) in
    pick_all (Gain x) s (pick t (number 1 206 50) absent) absent
    (pick_all (Gain x) t (number 1 206 50) absent (gain_most x) none)
    none

gain_field : (d : District) (m n : ℕ) → gains_at ≤ n → n < percents_at → field_at d (slot leader_form 4 per_strategy m) n ≡ pick (present d (slot leader_form 4 per_strategy m)) (pick (ltb (n - gains_at) (distresses_of d)) (number 1 206 50) absent) absent
unfolding field_at
gain_field d m n a b = rw (le-ltb n gains_at a, lt-ltb n percents_at b)

module _ (d : District) (e : in_range d ≡ true) where
  ok : InRange leader_form d
  ok = in_range_lem d e

  gain : (j k : ℕ) → 1 ≤ j → j ≤ most_strategies → 1 ≤ k → k ≤ most_distresses → nat_abs (gain_of d j k) ≤ 50
  unfolding ok gain_of
  gain j k a b p q =
      let n = gains_at + (k - 1) in
      let s = slot leader_form 4 per_strategy (j - 1) in
      let x = value_at d (strategy_place j + n) in
      let w : strategy_place j + n ≡ strategy_place j + gains_at + (k - 1) = omega arith in
      let most = subst (Gain x) (sym (gain_field d (j - 1) n (omega arith) (omega arith))) (gain_picked x (present d s) (ltb (n - gains_at) (distresses_of d))) in
      rw w at (most (strategy_in d ok j n a b (omega arith)))

  pub in_ranges : Ranges d
  unfolding ok traffic_of environment_of width_of
  in_ranges =
      record {
        places = ok.places;
        segments = (segments d ok).1;
        some_strategy = (strategies d ok).0;
        strategies = (strategies d ok).1;
        some_year = (years d ok).0;
        years = (years d ok).1;
        some_distress = (distresses d ok).0;
        distresses = (distresses d ok).1;
        some_pavement = (pavements d ok).0;
        pavements = (pavements d ok).1;
        some_resource = (resources d ok).0;
        resources = (resources d ok).1;
        limit = limit d ok;
        greatest = greatest d ok;
        requirement = requirement d ok;
        gain = gain;
        percent = percent d ok;
        overall = overall d ok;
        minimum = minimum d ok;
        some_type = some_type d ok;
        pavement = pavement d ok;
        traffic = λ i a b. plain d ok i traffic_at 100 1_000 2 a b (omega arith) refl refl;
        environment = λ i a b. plain d ok i environment_at 100 1_000 2 a b (omega arith) refl refl;
        mile_length = mile_length d ok;
        width = λ i a b. plain d ok i width_at 1 200 1 a b (omega arith) refl refl;
        bars = bars d ok;
        rating = rating d ok;
        leader = leader d ok;
      }
