-- An edit that is not refused leaves the district in the file's ranges.
use Prim.Native.Nat.{ℕ, zero, suc, ◌+◌, ◌-◌, ◌*◌, ◌/◌, ◌^◌, ◌≤◌, ◌<◌, min}
use mathlib.Core.Path.{◌≡◌, refl, sym, ap, ◌∙◌}
use mathlib.Core.Bool.{Bool, true, false, ◌&&◌}
use mathlib.Core.Logic.{inr}
use native.Mathlib.Nat.{pow-succ', zero-mul, add-mul, mod-lt, mul-le-mul_right, min-eq_left}
use native.Mathlib.Omega.{arith}
use lib.Dec.{ltb, eqb, leb}
use lib.ListN.{set, length-set}
use lib.Pow.{pow_pos, pow-add, shr_lt, split}
use lib.Seq.{get_or-set_same, get_or-set_other}
use borrow.Author.Tests.{ltb-true, ltb-false, eqb-true, eqb-false, leb-true, lt-ltb}
use Rattle.std.proofs.lemmas.Bool.{and_parts}
use Rattle.base.proofs.Choice.{pick_all}
use Rattle.std.specs.Int.{bit_at}
use Rattle.base.specs.Bits.{set_bit, clear_bit}
use Rattle.rules.specs.Answers.{no_such_segment, no_such_number, new_out_of_range, leader_not_below, unless, one_to}
use Rattle.rules.specs.Calls.{bar_refusal, limit_refusal, rating_refusal, leader_refusal, edit_refusal, edited}
use Rattle.rules.specs.District.{District, count_places, limit_place, greatest_at, greatest_place, strategies_at, bars_at, ratings_at, leader_at, per_segment, value_at, segment_place, bars_place, rating_place, leader_place, segments_of, strategies_of, distresses_of, resources_of, bars_of, greatest_of, with_limit, with_bar, without_bar, with_rating, with_leader}
use Rattle.rules.specs.File.{in_range}
use Rattle.rules.specs.Format.{leader_form, inside, slot, slot_of, first_segment_record, file_records, limit_field, rating_field, segment_field, field_at, Slot}
use Rattle.rules.specs.declared.Edit.{Edit}
use Rattle.rules.specs.declared.Edit.TheVariants.{Bar, Unbar, SetLimit, SetRating, SetLeader}
use Rattle.grammar.specs.Places.{start_of}
use Rattle.grammar.proofs.Bounds.{inside_number, segment_rating}
use Rattle.grammar.proofs.InRange.{InRange, in_range_lem, range_in}
use Rattle.grammar.proofs.InRanges.{segments, bars_most, strategies, distresses, resources}
use Rattle.grammar.proofs.Slots.{start_le, field_same, slot_segment, start_segment, ready}

-- a place is that of one number of one record
place_once : (n m i k : ℕ) → i < (slot_of leader_form n).places → k < (slot_of leader_form m).places → start_of n + i ≡ start_of m + k → (n ≡ m) × (i ≡ k)
place_once n m i k a b e = go (ltb n m) refl (ltb m n) refl
  where
    go : (s : Bool) → ltb n m ≡ s → (t : Bool) → ltb m n ≡ t → (n ≡ m) × (i ≡ k)
    go true p t q = absurd (let l = start_le (suc n) m (ltb-true n m p) in omega arith)
    go false p true q = absurd (let l = start_le (suc m) n (ltb-true m n q) in omega arith)
    go false p false q =
        let z : n ≡ m = omega (arith, ltb-false n m p, ltb-false m n q) in
        (z, omega (arith, ap start_of z))

-- a number that its field may hold, at a place on which no field hangs
module _ (d : District) (ok : InRange leader_form d) (n i x q : ℕ) (h : n < file_records) (l : i < (slot_of leader_form n).places) (e : start_of n + i ≡ q) (late : count_places ≤ q) (clear : greatest_at ≤ q → strategies_at ≤ q) (good : inside (field_at d (slot_of leader_form n) i) x ≡ true) where
  same : (m k : ℕ) → k < (slot_of leader_form m).places → field_at (set d q x) (slot_of leader_form m) k ≡ field_at d (slot_of leader_form m) k
  unfolding greatest_of
  same m k b =
      field_same d (set d q x) (λ c a. get_or-set_other d q c x 0 (λ z. omega arith)) (slot_of leader_form m) k
      (λ s l. get_or-set_other d q (greatest_place (k - ratings_at + 1)) x 0 (λ z. let w = clear (omega arith) in omega arith))

  set_in : (m k : ℕ) → m < file_records → k < (slot_of leader_form m).places → (t : Bool) → eqb (start_of m + k) q ≡ t → inside (field_at (set d q x) (slot_of leader_form m) k) (value_at (set d q x) (start_of m + k)) ≡ true
  set_in m k a b true p =
      let z = eqb-true (start_of m + k) q p in
      let one = place_once m n k i b l (z ∙ sym e) in
      rw (same m k b, z, get_or-set_same d q x 0 (omega (arith, (ready leader_form (inr refl) n h).room, ok.places)), one.0, one.1) good
  set_in m k a b false p = rw (same m k b, get_or-set_other d q (start_of m + k) x 0 (eqb-false (start_of m + k) q p)) (ok.values m k a b)

  kept : in_range (set d q x) ≡ true
  kept = range_in (set d q x) (record { places = length-set d q x ∙ ok.places; values = λ m k a b. set_in m k a b (eqb (start_of m + k) q) refl })

-- ---- what no refusal says

unless_passes : (t : Bool) (n rest : ℕ) → 1 ≤ n → unless t n rest ≡ 0 → (t ≡ true) × (rest ≡ 0)
unless_passes true n rest h e = (refl, e)
unless_passes false n rest h e = absurd (omega arith)

pub one_to_lem : (x count n rest : ℕ) → 1 ≤ n → one_to x count n rest ≡ 0 → (1 ≤ x) × (x ≤ count) × (rest ≡ 0)
one_to_lem x count n rest h e =
    let u = unless_passes (leb 1 x && leb x count) n rest h e in
    let b = and_parts (leb 1 x) (leb x count) u.0 in
    (leb-true 1 x b.0, leb-true x count b.1, u.1)

-- a bar that is not refused names a segment and a strategy of the district
pub bar_numbers : (d : District) (i j : ℕ) → bar_refusal d i j ≡ 0 → (1 ≤ i) × (i ≤ segments_of d) × (1 ≤ j) × (j ≤ strategies_of d)
bar_numbers d i j e =
    let o = one_to_lem i (segments_of d) no_such_segment (one_to j (strategies_of d) no_such_number 0) (omega arith) e in
    let p = one_to_lem j (strategies_of d) no_such_number 0 (omega arith) o.2 in
    (o.0, o.1, p.0, p.1)

-- ---- limits

limit_kept : (d : District) (r limit : ℕ) → in_range d ≡ true → limit_refusal d r limit ≡ 0 → in_range (with_limit d r limit) ≡ true
unfolding field_at
limit_kept d r limit ok e =
    let o = one_to_lem r (resources_of d) no_such_number (unless (inside (limit_field d (r - 1)) limit) new_out_of_range 0) (omega arith) e in
    let u = unless_passes (inside (limit_field d (r - 1)) limit) new_out_of_range 0 (omega arith) o.2 in
    let m = (resources d (in_range_lem d ok)).1 in
    kept d (in_range_lem d ok) 1 (r - 1) limit (limit_place r) (omega arith) (omega (arith, o.0, o.1)) refl (omega arith) (λ z. omega (arith, o.1)) u.0

-- ---- segments

segment_kept : (d : District) (i n x q : ℕ) → in_range d ≡ true → 1 ≤ i → i ≤ segments_of d → n < per_segment → segment_place i + n ≡ q → inside (segment_field d (slot leader_form 6 per_segment (i - 1)) n) x ≡ true → in_range (set d q x) ≡ true
unfolding field_at
segment_kept d i n x q ok a b l e good =
    let N = (segments d (in_range_lem d ok)).1 in
    let z = slot_segment leader_form (i - 1) (omega arith) in
    let s = start_segment (i - 1) (omega arith) in
    kept d (in_range_lem d ok) (first_segment_record + (i - 1)) n x q (omega arith) (omega (arith, ap (λ (s : Slot). s.places) z)) (omega arith) (omega arith) (λ z. omega arith)
    (rw (z, lt-ltb (i - 1) (segments_of d) (omega arith)) good)

rating_kept : (d : District) (i k rating : ℕ) → in_range d ≡ true → rating_refusal d i k rating ≡ 0 → in_range (with_rating d i k rating) ≡ true
rating_kept d i k rating ok e =
    let f = rating_field d (k - 1) in
    let o = one_to_lem i (segments_of d) no_such_segment (one_to k (distresses_of d) no_such_number (unless (inside f rating) new_out_of_range 0)) (omega arith) e in
    let p = one_to_lem k (distresses_of d) no_such_number (unless (inside f rating) new_out_of_range 0) (omega arith) o.2 in
    let u = unless_passes (inside f rating) new_out_of_range 0 (omega arith) p.2 in
    let D = (distresses d (in_range_lem d ok)).1 in
    segment_kept d i (ratings_at + (k - 1)) rating (rating_place i k) ok o.0 o.1 (omega (arith, p.1)) (omega arith) (rw (segment_rating d (slot leader_form 6 per_segment (i - 1)) k p.0 (omega (arith, p.1))) u.0)

leader_kept : (d : District) (i leader : ℕ) → in_range d ≡ true → leader_refusal d i leader ≡ 0 → in_range (with_leader d i leader) ≡ true
leader_kept d i leader ok e =
    let o = one_to_lem i (segments_of d) no_such_segment (unless (ltb leader i) leader_not_below 0) (omega arith) e in
    let u = unless_passes (ltb leader i) leader_not_below 0 (omega arith) o.2 in
    segment_kept d i leader_at leader (leader_place i) ok o.0 o.1 (omega arith) refl (inside_number 1 0 (i - 1) leader (omega arith) (omega (arith, ltb-true leader i u.0)))

-- a bit below s, set or cleared in a mask below 2 ^ s
set_below : (mask s n : ℕ) → n < s → mask < 2 ^ s → set_bit mask n < 2 ^ s
unfolding set_bit
set_below mask s n h l = pick_all (λ (m : ℕ). m < 2 ^ s) (ltb n 16) (mask + (1 - bit_at mask n) * 2 ^ n) mask (go (bit_at mask n) refl) l
  where
    go : (b : ℕ) → bit_at mask n ≡ b → mask + (1 - b) * 2 ^ n < 2 ^ s
    go zero e =
        let j = s - n - 1 in
        let z : s ≡ suc j + n = omega arith in
        let q = mask / 2 ^ n in
        let a : q < 2 ^ suc j = shr_lt (suc j) n (rw z at l) in
        let two = pow-succ' 2 j in
        let room = mul-le-mul_right {m = q + 2} {n = 2 ^ suc j} (2 ^ n) (omega arith) in
        omega (arith, room, add-mul q 2 (2 ^ n), split mask n, mod-lt mask (pow_pos n), pow-add 2 (suc j) n, ap (λ (m : ℕ). 2 ^ m) z)
    go (suc b) e = let z : 1 - suc b ≡ 0 = omega arith in rw (z, zero-mul (2 ^ n)) (omega arith)

clear_below : (mask s n : ℕ) → mask < 2 ^ s → clear_bit mask n < 2 ^ s
unfolding clear_bit
clear_below mask s n l = pick_all (λ (m : ℕ). m < 2 ^ s) (ltb n 16) (mask - bit_at mask n * 2 ^ n) mask (omega arith) l

-- the bars of a segment are below 2 ^ S, and any number below is one that they may be
module _ (d : District) (ok : in_range d ≡ true) (i j : ℕ) (e : bar_refusal d i j ≡ 0) where
  numbers : (1 ≤ i) × (i ≤ segments_of d) × (1 ≤ j) × (j ≤ strategies_of d)
  numbers = bar_numbers d i j e

  as_many : min (strategies_of d) 16 ≡ strategies_of d
  as_many = let S = (strategies d (in_range_lem d ok)).1 in min-eq_left (omega arith)

  bars_below : bars_of d i < 2 ^ strategies_of d
  bars_below =
      let h = rw as_many at (bars_most d (in_range_lem d ok) i numbers.0 (omega (arith, numbers.1, (segments d (in_range_lem d ok)).1))) in
      omega (arith, pow_pos (strategies_of d))

  bars_kept : (mask : ℕ) → mask < 2 ^ strategies_of d → in_range (set d (bars_place i) mask) ≡ true
  bars_kept mask l =
      segment_kept d i bars_at mask (bars_place i) ok numbers.0 numbers.1 (omega arith) refl (rw as_many (inside_number 2 0 (2 ^ strategies_of d - 1) mask (omega arith) (omega arith)))

  bar_kept : in_range (with_bar d i j) ≡ true
  bar_kept = bars_kept (set_bit (bars_of d i) (j - 1)) (set_below (bars_of d i) (strategies_of d) (j - 1) (omega (arith, numbers.2, numbers.3)) bars_below)

  unbar_kept : in_range (without_bar d i j) ≡ true
  unbar_kept = bars_kept (clear_bit (bars_of d i) (j - 1)) (clear_below (bars_of d i) (strategies_of d) (j - 1) bars_below)

pub edit_kept : (d : District) (e : Edit) → in_range d ≡ true → edit_refusal d e ≡ 0 → in_range (edited d e) ≡ true
edit_kept d (Bar i j) ok none = bar_kept d ok i j none
edit_kept d (Unbar i j) ok none = unbar_kept d ok i j none
edit_kept d (SetLimit r limit) ok none = limit_kept d r limit ok none
edit_kept d (SetRating i k rating) ok none = rating_kept d i k rating ok none
edit_kept d (SetLeader i leader) ok none = leader_kept d i leader ok none
