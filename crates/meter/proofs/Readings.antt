-- The tests that `meter::is_reading` makes decide what the rules call a reading.
use Rattle.std.proofs.Common.{◌≡◌, ℕ, ◌*◌, ◌/◌, ◌%◌, ◌<◌, ◌≤◌, Bool, true, false, not, ◌&&◌, ◌||◌, T, eqb, ltb, pos, sym, refl, ap, ◌∙◌, inl, inr, div-lt_iff_lt-mul, lt_of_mul-lt-mul_right, mul-lt-mul_of_pos_right, div-add-mod', arith, pow_pos, ltb-false, ltb-true, le-ltb, lt-ltb, eq-eqb, eqb-true}
use mathlib.Core.Bool.{and-true, or-true}
use native.Mathlib.Nat.{zero-mod, zero-div}
use lib.Ieee.Nearest.{div_same}
use lib.Ieee.{Float, nan, inf, fin, binary32, round, mul, lt, eq, fits, of_bits, of_int}
use lib.Ieee.Exact.{HasValue}
use lib.Ieee.Scale.{finite}
use lib.Ieee.Back.{round_whole}
use lib.Ieee.Positive.{num, den, positive, den_pos, positive-finite, value→cross}
use borrow.Author.Tests.{eqb-false}
use Rattle.base.specs.Choice.{pick}
use Rattle.std.specs.Cmp.{both_ways}
use Rattle.std.proofs.lemmas.Bool.{and_parts, and_right, and_left}
use Rattle.rules.specs.Meter.{is_negative, magnitude_of, part1024, is_reading, reading_of}
use Rattle.meter.specs.Window.{0f, unsigned, Counts}
use Rattle.meter.proofs.Values.{lt_values, eq_values, eq_zero, rescaled}
use Rattle.meter.proofs.Whole.{1024f, bounded, times_exact}
use Rattle.meter.proofs.Bits.{Reads, bits_read}

abbrev pub 8f : Float
8f = fin false 1 (pos 3)

not_finite : (x : Float) → T (not (finite x)) → eq x 0f ≡ false
unfolding eq
not_finite nan n = refl
not_finite (inf s) n = refl
not_finite (fin s m e) n = absurd n

finite_not : (x : Float) → T (finite x) → T (not (finite x)) → ⊥
finite_not nan f n = f
finite_not (inf s) f n = f
finite_not (fin s m e) f n = n

-- of a value that a test finds above 0
plain_sign : (x : Float) (s : Bool) (a c : ℕ) → lt 0f x ≡ true → HasValue x s a c → s ≡ false
unfolding lt
plain_sign nan s a c h v = elim v [ ]
plain_sign (inf _) s a c h v = elim v [ ]
plain_sign (fin true m e) s a c h v = cc
plain_sign (fin false m e) s a c h v = sym v.0

-- ---- the rule, with any part for 1/1024

abbrev test : ℕ → Bool → ℕ → Bool
test part s a = eqb (a % part) 0 && (ltb a (8 * 1024 * part) && (not s || eqb a 0))

module _ (part : ℕ) (P : 0 < part) (s : Bool) (a : ℕ) where
  test_zero : a ≡ 0 → test part s a ≡ true
  test_zero z = rw (z, zero-mod part, lt-ltb 0 (8 * 1024 * part) (omega arith)) (or-true (not s))

  test_high : 8192 * part ≤ a → test part s a ≡ false
  test_high h = and_right (eqb (a % part) 0) _ (and_left _ _ (le-ltb a (8 * 1024 * part) h))

  test_negative : s ≡ true → eqb a 0 ≡ false → test part s a ≡ false
  test_negative e z = and_right (eqb (a % part) 0) _ (and_right (ltb a (8 * 1024 * part)) _ (rw (e, z)))

  test_between : s ≡ false → a < 8192 * part → test part s a ≡ eqb (a % part) 0
  test_between e h = rw (e, lt-ltb a (8 * 1024 * part) h) (and-true (eqb (a % part) 0))

-- n of the quotient is all of it where nothing is left
no_rest : (part a n : ℕ) → n ≡ a / part → eqb (n * part) (a * 1) ≡ eqb (a % part) 0
no_rest part a n e =
    let d = div-add-mod' a part in
    let q = ap (λ (z : ℕ). z * part) e in
    both_ways (eqb (n * part) (a * 1)) (eqb (a % part) 0) (λ h. eq-eqb (a % part) 0 (let z = eqb-true (n * part) (a * 1) h in omega arith))
    (λ h. eq-eqb (n * part) (a * 1) (let z = eqb-true (a % part) 0 h in omega arith))

-- ---- each outcome of the code's tests

module _ (part : ℕ) (P : 0 < part) (x : Float) (s : Bool) (a : ℕ) (r : Reads part x s a) where
  zero_is : eq x 0f ≡ true → true ≡ test part s a
  zero_is h = known r
    where
      known : Reads part x s a → true ≡ test part s a
      known (inl n) = cc (not_finite x n.0)
      known (inr v) = sym (test_zero part P s a (eqb-true a 0 (sym (eq_zero x s a (1024 * part) (omega arith) v) ∙ h)))

  low_is : eq x 0f ≡ false → lt 0f x ≡ false → false ≡ test part s a
  low_is h l = known r
    where
      known : Reads part x s a → false ≡ test part s a
      known (inl n) = sym (test_high part P s a n.1)
      known (inr v) = sym (signed s refl)
        where
          some : eqb a 0 ≡ false
          some = sym (eq_zero x s a (1024 * part) (omega arith) v) ∙ h

          signed : (t : Bool) → s ≡ t → test part s a ≡ false
          signed true e = test_negative part P s a e some
          signed false e =
              let t = lt_values 0 1 a (1024 * part) (omega arith) (omega arith) 0f x (refl, refl) (rw e at v) in
              let z = ltb-false (0 * (1024 * part)) (a * 1) (sym t ∙ l) in
              absurd (eqb-false a 0 some (omega arith))

  high_is : lt 0f x ≡ true → lt x 8f ≡ false → false ≡ test part s a
  high_is h l = known r
    where
      known : Reads part x s a → false ≡ test part s a
      known (inl n) = sym (test_high part P s a n.1)
      known (inr v) =
          let e = plain_sign x s a (1024 * part) h v in
          let t = lt_values a (1024 * part) 8 1 (omega arith) (omega arith) x 8f (rw e at v) (refl, refl) in
          let z = ltb-false (a * 1) (8 * (1024 * part)) (sym t ∙ l) in
          sym (test_high part P s a (omega arith))

  -- a value between, with the whole 1024ths in it
  module _ (f : fits binary32 x ≡ true) (lo : lt 0f x ≡ true) (hi : lt x 8f ≡ true) (n : ℕ) (small : n < 524288)
      (parts : (b c : ℕ) → 0 < c → HasValue x false b c → b < 512 * c → n ≡ b * 1024 / c) where
    range : T (positive x) × (num x < 8 * den x)
    range = bounded x 8f 8 (refl, refl) lo hi

    whole_is : eq (of_int binary32 (pos n)) (mul binary32 x 1024f) ≡ test part s a
    unfolding of_int
    whole_is = known r
      where
        known : Reads part x s a → eq (of_int binary32 (pos n)) (mul binary32 x 1024f) ≡ test part s a
        known (inl n) = absurd (finite_not x (positive-finite x range.0) n.0)
        known (inr v) =
            let u : HasValue x false a (1024 * part) = rw (plain_sign x s a (1024 * part) lo v) at v in
            let c = value→cross x a (1024 * part) u in
            let l = mul-lt-mul_of_pos_right {k = 1024 * part} range.1 (omega arith) in
            let few : a < 8192 * part = lt_of_mul-lt-mul_right (den x) (omega arith) in
            let k = parts a (1024 * part) (omega arith) u (omega arith) ∙ div_same (a * 1024) (1024 * part) a part (omega arith) P (omega arith) in
            let y = rescaled (mul binary32 x 1024f) false (num x * 1024) (den x) a part (den_pos x) (omega arith)
            (times_exact x f range.0 (let q = range.1 in let d = den_pos x in omega arith)) in
            eq_values n 1 a part (omega arith) P (round binary32 false n 1) (mul binary32 x 1024f) (round_whole binary32 false n (omega arith)) y
            ∙ no_rest part a n k
            ∙ sym (test_between part P s a (plain_sign x s a (1024 * part) lo v) few)

-- ---- and of a reading, the float that is kept

not_signed : (s t : Bool) → (not s || t) ≡ true → t ≡ false → s ≡ false
not_signed true t h e = cc
not_signed false t h e = refl

module _ (part : ℕ) (P : 0 < part) (x : Float) (s : Bool) (a : ℕ) (r : Reads part x s a) (yes : test part s a ≡ true) where
  few : a < 8192 * part
  few = ltb-true a (8 * 1024 * part) (and_parts (ltb a (8 * 1024 * part)) (not s || eqb a 0) (and_parts (eqb (a % part) 0) _ yes).1).0

  few_parts : a / part < 8192
  few_parts = (div-lt_iff_lt-mul P).1 few

  kept_counts : Counts (unsigned x) (a / part)
  unfolding unsigned
  kept_counts = known r (eqb a 0) refl
    where
      known : Reads part x s a → (b : Bool) → eqb a 0 ≡ b → HasValue (pick (eq x 0f) 0f x) false (a / part) 1024
      known (inl n) b h = absurd (let l = few in let m = n.1 in omega arith)
      known (inr v) true h = rw (eq_zero x s a (1024 * part) (omega arith) v, h, eqb-true a 0 h, zero-div part) (refl, refl)
      known (inr v) false h =
          let d = div-add-mod' a part in
          let z = eqb-true (a % part) 0 (and_parts (eqb (a % part) 0) _ yes).0 in
          rw (eq_zero x s a (1024 * part) (omega arith) v, h)
          (rescaled x false a (1024 * part) (a / part) 1024 (omega arith) (omega arith)
          (rw (not_signed s (eqb a 0) (and_parts (ltb a (8 * 1024 * part)) _ (and_parts (eqb (a % part) 0) _ yes).1).1 h) at v))

-- ---- the same of 32 bits

module _ (x : Float) (bits : ℕ) (e : x ≡ of_bits binary32 bits) where
  read : Reads part1024 x (is_negative bits) (magnitude_of bits)
  read = rw e (bits_read bits)

  reading_zero : eq x 0f ≡ true → true ≡ is_reading bits
  unfolding is_reading
  reading_zero h = zero_is part1024 (pow_pos 140) x (is_negative bits) (magnitude_of bits) read h

  pub reading_low : lt 0f x ≡ false → eq x 0f ≡ is_reading bits
  unfolding is_reading
  reading_low l = known (eq x 0f) refl
    where
      known : (t : Bool) → eq x 0f ≡ t → eq x 0f ≡ is_reading bits
      known true h = h ∙ reading_zero h
      known false h = h ∙ low_is part1024 (pow_pos 140) x (is_negative bits) (magnitude_of bits) read h l

  pub reading_high : lt 0f x ≡ true → lt x 8f ≡ false → eq x 0f ≡ is_reading bits
  unfolding is_reading
  reading_high g l = known (eq x 0f) refl
    where
      known : (t : Bool) → eq x 0f ≡ t → eq x 0f ≡ is_reading bits
      known true h = h ∙ reading_zero h
      known false h = h ∙ high_is part1024 (pow_pos 140) x (is_negative bits) (magnitude_of bits) read g l

  pub reading_between :
      fits binary32 x ≡ true → lt 0f x ≡ true → lt x 8f ≡ true → (n : ℕ) → n < 524288
      → ((b c : ℕ) → 0 < c → HasValue x false b c → b < 512 * c → n ≡ b * 1024 / c)
      → eq (of_int binary32 (pos n)) (mul binary32 x 1024f) ≡ is_reading bits
  unfolding is_reading
  reading_between f lo hi n small parts = whole_is part1024 (pow_pos 140) x (is_negative bits) (magnitude_of bits) read f lo hi n small parts

  pub reading_kept : is_reading bits ≡ true → Counts (unsigned x) (reading_of bits) × (reading_of bits < 8192)
  unfolding is_reading reading_of
  reading_kept t = (
    kept_counts part1024 (pow_pos 140) x (is_negative bits) (magnitude_of bits) read t,
    few_parts part1024 (pow_pos 140) x (is_negative bits) (magnitude_of bits) read t,
  )
