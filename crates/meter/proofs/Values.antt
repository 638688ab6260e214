-- Floats that are fractions compare as the fractions do.
use Rattle.std.proofs.Common.{◌≡◌, ℕ, ◌*◌, ◌<◌, Bool, true, false, ◌&&◌, ◌||◌, eqb, ltb, sym, refl, ap, ◌∙◌, lt_of_mul-lt-mul_right, mul-lt-mul_of_pos_right, mul-pos, arith, ltb-true, lt-ltb, eq-eqb, eqb-true}
use mathlib.Core.Bool.{beq, and-true}
use native.Mathlib.Nat.{eq_of_mul-eq-mul_right}
use lib.Ieee.{Float, nan, inf, fin, up, down, lt, eq}
use lib.Ieee.Exact.{HasValue}
use lib.Ieee.Fits.{down_pos}
use Rattle.std.specs.Cmp.{both_ways}
use Rattle.meter.specs.Window.{0f}

-- x / q to a / p and y / q to b / p
lt_scaled : (x y a b p q : ℕ) → 0 < p → x * p ≡ a * q → y * p ≡ b * q → x < y → a < b
lt_scaled x y a b p q P e f h = lt_of_mul-lt-mul_right q (let r = mul-lt-mul_of_pos_right h P in omega arith)

eq_scaled : (x y a b p q : ℕ) → 0 < q → x * p ≡ a * q → y * p ≡ b * q → x ≡ y → a ≡ b
eq_scaled x y a b p q Q e f h = eq_of_mul-eq-mul_right q Q a b (sym e ∙ ap (λ (z : ℕ). z * p) h ∙ f)

module _ (x y a b p q : ℕ) (P : 0 < p) (Q : 0 < q) (e : x * p ≡ a * q) (f : y * p ≡ b * q) where
  ltb_scaled : ltb x y ≡ ltb a b
  ltb_scaled =
      both_ways (ltb x y) (ltb a b) (λ h. lt-ltb a b (lt_scaled x y a b p q P e f (ltb-true x y h)))
      (λ h. lt-ltb x y (lt_scaled a b x y q p Q (sym e) (sym f) (ltb-true a b h)))

  eqb_scaled : eqb x y ≡ eqb a b
  eqb_scaled =
      both_ways (eqb x y) (eqb a b) (λ h. eq-eqb a b (eq_scaled x y a b p q Q e f (eqb-true x y h)))
      (λ h. eq-eqb x y (eq_scaled a b x y q p P (sym e) (sym f) (eqb-true a b h)))

-- m × u / v is a / c, over the common denominator of both sides
over : (m u v a c w d : ℕ) → m * u * c ≡ a * v → m * u * w * (c * d) ≡ a * d * (v * w)
over m u v a c w d h = let q = ap (λ (z : ℕ). z * (w * d)) h in omega arith

over' : (m u v a c w d : ℕ) → m * u * c ≡ a * v → m * u * w * (d * c) ≡ a * d * (w * v)
over' m u v a c w d h = let q = ap (λ (z : ℕ). z * (w * d)) h in omega arith

module _ (a c b d : ℕ) (C : 0 < c) (D : 0 < d) where
  pub lt_values : (x y : Float) → HasValue x false a c → HasValue y false b d → lt x y ≡ ltb (a * d) (b * c)
  unfolding lt
  lt_values nan y v w = elim v [ ]
  lt_values (inf _) y v w = elim v [ ]
  lt_values (fin true m e) y v w = cc
  lt_values (fin false m e) nan v w = elim w [ ]
  lt_values (fin false m e) (inf _) v w = elim w [ ]
  lt_values (fin false m e) (fin true n g) v w = cc
  lt_values (fin false m e) (fin false n g) v w =
      ltb_scaled (m * up e * down g) (n * up g * down e) (a * d) (b * c) (c * d) (down e * down g) (mul-pos C D)
      (mul-pos (down_pos e) (down_pos g)) (over m (up e) (down e) a c (down g) d v.1) (over' n (up g) (down g) b d (down e) c w.1)

  pub eq_values : (x y : Float) → HasValue x false a c → HasValue y false b d → eq x y ≡ eqb (a * d) (b * c)
  unfolding eq
  eq_values nan y v w = elim v [ ]
  eq_values (inf _) y v w = elim v [ ]
  eq_values (fin true m e) y v w = cc
  eq_values (fin false m e) nan v w = elim w [ ]
  eq_values (fin false m e) (inf _) v w = elim w [ ]
  eq_values (fin false m e) (fin true n g) v w = cc
  eq_values (fin false m e) (fin false n g) v w =
      and-true (eqb (m * up e * down g) (n * up g * down e))
      ∙ eqb_scaled (m * up e * down g) (n * up g * down e) (a * d) (b * c) (c * d) (down e * down g) (mul-pos C D)
      (mul-pos (down_pos e) (down_pos g)) (over m (up e) (down e) a c (down g) d v.1) (over' n (up g) (down g) b d (down e) c w.1)

-- with either sign
no_sign : (t : Bool) (a z : ℕ) → z ≡ 0 → (eqb a z && (t || eqb a 0)) ≡ eqb a 0
no_sign t a z e = rw e (absorbed t (eqb a 0))
  where
    absorbed : (s t : Bool) → (t && (s || t)) ≡ t
    absorbed s false = refl
    absorbed true true = refl
    absorbed false true = refl

pub eq_zero : (x : Float) (s : Bool) (a c : ℕ) → 0 < c → HasValue x s a c → eq x 0f ≡ eqb a 0
unfolding eq
eq_zero nan s a c C v = elim v [ ]
eq_zero (inf _) s a c C v = elim v [ ]
eq_zero (fin t m e) s a c C v =
    no_sign (beq t false) (m * up e * 1) (0 * 1 * down e) (omega arith)
    ∙ eqb_scaled (m * up e * 1) 0 a 0 c (down e) C (down_pos e) (let q = v.1 in omega arith) (omega arith)

-- from one fraction to another of the same size
pub rescaled : (x : Float) (s : Bool) (a c b d : ℕ) → 0 < c → a * d ≡ b * c → HasValue x s a c → HasValue x s b d
rescaled nan s a c b d C h v = elim v [ ]
rescaled (inf _) s a c b d C h v = elim v [ ]
rescaled (fin t m e) s a c b d C h v =
    let q = ap (λ (z : ℕ). z * d) v.1 in
    let r = ap (λ (z : ℕ). z * down e) h in
    (v.0, eq_of_mul-eq-mul_right c C (m * up e * d) (b * down e) (omega arith))
