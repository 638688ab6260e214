-- How many whole 1024ths are in a float above 0 and below 512: 1024 times it is exact, and the cut is the quotient.
use Rattle.std.proofs.Common.{◌≡◌, ℕ, zero, suc, ◌+◌, ◌-◌, ◌*◌, ◌/◌, ◌%◌, ◌^◌, ◌<◌, ◌≤◌, true, false, ◌&&◌, T, eqb, ltb, leb, ℤ, pos, negsuc, sym, refl, ap, ◌∙◌, subst, lt_of_lt_of_le, mul_assoc, div-lt_iff_lt-mul, lt_of_not-le, mul-one, not-le_of_lt, arith, ltb→lt, lt→ltb, leb→le, pow_pos, pow_mono, pow-add, shl_lt, ltb-false, ltb-true, lt-ltb}
use native.Mathlib.Nat.{zero-div}
use lib.Pow.{pow-lt}
use lib.Ieee.{Float, nan, inf, fin, binary32, up, down, round, mul, lt, fits, to_unsigned}
use lib.Ieee.Exact.{HasValue, round_exact}
use lib.Ieee.Nearest.{div_same}
use lib.Ieee.Fits.{down_pos, and_l, and_r}
use lib.Ieee.Positive.{num, den, positive, den_pos, first_pos, value→cross}
use Rattle.std.proofs.lemmas.Float.{T_from_true}
use Rattle.meter.specs.Window.{0f}
use Rattle.meter.proofs.Values.{lt_values}

abbrev pub 512f : Float
512f = fin false 1 (pos 9)

abbrev pub 1024f : Float
1024f = fin false 1 (pos 10)

-- ---- above 0 and below a whole number

pub bounded : (x y : Float) (n : ℕ) → HasValue y false n 1 → lt 0f x ≡ true → lt x y ≡ true → T (positive x) × (num x < n * den x)
unfolding lt
bounded nan y n v h k = cc
bounded (inf true) y n v h k = cc
bounded (inf false) nan n v h k = elim v [ ]
bounded (inf false) (inf _) n v h k = elim v [ ]
bounded (inf false) (fin t i g) n v h k = cc
bounded (fin true m e) y n v h k = cc
bounded (fin false m e) y n v h k =
    let p = ltb-true (0 * 1 * down e) (m * up e * 1) h in
    let l = sym (lt_values (m * up e) (down e) n 1 (down_pos e) (omega arith) (fin false m e) y (refl, refl) v) ∙ k in
    let q = ltb-true (m * up e * 1) (n * down e) l in
    (lt→ltb 0 m (first_pos m (up e) (omega arith)), omega arith)

-- ---- 1024 times it is exact

digits : (m : ℕ) (e : ℤ) → 0 < m → T (fits binary32 (fin false m e)) → (m < 2 ^ 24) × (down e ≤ 2 ^ 149)
unfolding fits
digits zero e p f = absurd (omega arith)
digits (suc m) e p f =
    let a = and_l (eqb (suc m % 2) 1 && ltb (suc m) (2 ^ 24) && leb (down e) (2 ^ 149)) (ltb (suc m * up e) (2 ^ 128 * down e)) f in
    let b = and_l (eqb (suc m % 2) 1 && ltb (suc m) (2 ^ 24)) (leb (down e) (2 ^ 149)) a in (
      ltb→lt (suc m) (2 ^ 24) (and_r (eqb (suc m % 2) 1) (ltb (suc m) (2 ^ 24)) b),
      leb→le (down e) (2 ^ 149) (and_r (eqb (suc m % 2) 1 && ltb (suc m) (2 ^ 24)) (leb (down e) (2 ^ 149)) a),
    )

-- 2 ^ a × 2 ^ b, as one power
joined : (m a b c : ℕ) → a + b ≡ c → m * 2 ^ a * 2 ^ b ≡ m * 2 ^ c
joined m a b c h = mul_assoc m (2 ^ a) (2 ^ b) ∙ ap (λ (x : ℕ). m * x) (sym (pow-add 2 a b) ∙ ap (λ (x : ℕ). 2 ^ x) h)

times_round : (m : ℕ) (e : ℤ) → m < 2 ^ 24 → down e ≤ 2 ^ 149 → m * up e < 512 * down e
    → HasValue (round binary32 false (m * up e * 1024) (down e)) false (m * up e * 1024) (down e)
times_round m (pos k) h l r =
    let room : m * 2 ^ (k + 159) < 2 ^ 168 = subst (λ (x : ℕ). x < 2 ^ 168) (joined m k 159 (k + 159) refl) (shl_lt 9 159 (omega arith)) in
    round_exact binary32 false (m * 2 ^ k * 1024) 1 m (k + 159) (omega arith) h (lt_of_lt_of_le room (pow_mono {i = 168} {j = 277} (omega arith)))
    (mul_assoc (m * 2 ^ k) 1024 (2 ^ 149) ∙ joined m k 159 (k + 159) refl ∙ sym (mul-one (m * 2 ^ (k + 159))))
times_round m (negsuc k) h l r =
    let k-le : suc k ≤ 149 = lt_of_not-le (λ g. not-le_of_lt (pow-lt {i = 149} {j = suc k} (omega arith)) l) in
    let j = 159 - suc k in
    round_exact binary32 false (m * 1 * 1024) (2 ^ suc k) m j (pow_pos (suc k)) h
    (lt_of_lt_of_le (shl_lt 24 j h) (pow_mono {i = 24 + j} {j = 277} (omega arith)))
    (mul_assoc (m * 1) 1024 (2 ^ 149) ∙ ap (λ (x : ℕ). x * 2 ^ 159) (mul-one m) ∙ sym (joined m j (suc k) 159 (omega arith)))

pub times_exact : (x : Float) → fits binary32 x ≡ true → T (positive x) → num x < 512 * den x
    → HasValue (mul binary32 x 1024f) false (num x * 1024) (den x)
unfolding mul
times_exact nan f p h = absurd p
times_exact (inf s) f p h = absurd p
times_exact (fin true m e) f p h = absurd p
times_exact (fin false m e) f p h =
    let w = digits m e (ltb→lt 0 m p) (T_from_true _ f) in rw mul-one (times_round m e w.0 w.1 h)

-- ---- the cut of a / c, below 2 ^ 19

module _ (a c : ℕ) (C : 0 < c) (small : a < 524288 * c) where
  cut_low : (y : Float) → HasValue y false a c → lt (fin true 1 (pos 0)) y ≡ true
  unfolding lt
  cut_low nan v = elim v [ ]
  cut_low (inf _) v = elim v [ ]
  cut_low (fin true m e) v = cc
  cut_low (fin false m e) v = lt-ltb 0 (1 * 1 * down e + m * up e * 1) (let q = down_pos e in omega arith)

  cut_high : (y : Float) → HasValue y false a c → lt y (fin false 1 (pos 64)) ≡ true
  cut_high y v =
      lt_values a c (2 ^ 64) 1 C (omega arith) y (fin false 1 (pos 64)) v (refl, refl) ∙ lt-ltb (a * 1) (2 ^ 64 * c) (omega arith)

  cut_few : a / c < 524288
  cut_few = (div-lt_iff_lt-mul C).1 small

  cut_is : (y : Float) → HasValue y false a c → to_unsigned 64 y ≡ a / c
  unfolding to_unsigned
  cut_is nan v = elim v [ ]
  cut_is (inf _) v = elim v [ ]
  cut_is (fin true m e) v = cc
  cut_is (fin false m e) v =
      let q : m * up e / down e ≡ a / c = div_same (m * up e) (down e) a c (down_pos e) C v.1 in
      let s = cut_few in
      omega arith

-- ---- the whole 1024ths of x

module _ (x : Float) (f : fits binary32 x ≡ true) (lo : lt 0f x ≡ true) (hi : lt x 512f ≡ true) where
  range : T (positive x) × (num x < 512 * den x)
  range = bounded x 512f 512 (refl, refl) lo hi

  small : num x * 1024 < 524288 * den x
  small = let q = range.1 in omega arith

  exact : HasValue (mul binary32 x 1024f) false (num x * 1024) (den x)
  exact = times_exact x f range.0 range.1

  pub call_low : T (lt (fin true 1 (pos 0)) (mul binary32 x 1024f))
  call_low = T_from_true _ (cut_low (num x * 1024) (den x) (den_pos x) small (mul binary32 x 1024f) exact)

  pub call_high : T (lt (mul binary32 x 1024f) (fin false 1 (pos 64)))
  call_high = T_from_true _ (cut_high (num x * 1024) (den x) (den_pos x) small (mul binary32 x 1024f) exact)

  cut : to_unsigned 64 (mul binary32 x 1024f) ≡ num x * 1024 / den x
  cut = cut_is (num x * 1024) (den x) (den_pos x) small (mul binary32 x 1024f) exact

  pub parts_small : to_unsigned 64 (mul binary32 x 1024f) < 524288
  parts_small = rw cut (cut_few (num x * 1024) (den x) (den_pos x) small)

  pub parts_are : (a c : ℕ) → 0 < c → HasValue x false a c → to_unsigned 64 (mul binary32 x 1024f) ≡ a * 1024 / c
  parts_are a c C v =
      cut ∙ div_same (num x * 1024) (den x) (a * 1024) c (den_pos x) C (let q = value→cross x a c v in omega arith)

-- ---- and where it is not between

module _ (x : Float) (a c : ℕ) (C : 0 < c) (v : HasValue x false a c) where
  pub none_below : lt 0f x ≡ false → 0 ≡ a * 1024 / c
  none_below h =
      let q = ltb-false (0 * c) (a * 1) (sym (lt_values 0 1 a c (omega arith) C 0f x (refl, refl) v) ∙ h) in
      let z : a ≡ 0 = omega arith in
      rw z (sym (zero-div c))

  pub none_above : a < 512 * c → lt x 512f ≡ false → 0 ≡ a * 1024 / c
  none_above l h =
      let q = ltb-false (a * 1) (512 * c) (sym (lt_values a c 512 1 C (omega arith) x 512f v (refl, refl)) ∙ h) in
      absurd (omega arith)
