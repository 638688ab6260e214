-- Whole numbers with a sign: bounds by their absolute value, which stand in ℕ, where omega reads them; what a signed local of the machine
-- holds; and laws of sum_z.
use Prim.Native.Nat.{ℕ, zero, suc, ◌+◌, ◌-◌, ◌*◌, ◌/◌, ◌^◌, ◌≤◌, ◌<◌}
use mathlib.Core.Path.{◌≡◌, refl, sym, ap, ap₂, ◌∙◌}
use mathlib.Core.Bool.{true, false}
use native.Mathlib.Nat.{lt_of_le_of_lt, mul-le-mul, suc-mul, mul-add}
use native.Mathlib.Numerals.{add-one}
use native.Mathlib.Omega.{arith}
use lib.Dec.{T, ltb, lit<}
use lib.IntN.{ℤ, pos, negsuc, neg_ℤ, nat_abs, ◌+ℤ◌, ◌-ℤ◌, ◌*ℤ◌, neg_ℤ-+ℤ, *ℤ-zero}
use lib.Signed.{mag, quot_z, le_z, lt_z, non_neg, ◌≤ℤ◌}
use mir.Syntax.{Width}
use mir.Val.{Fits, SFits, bits, hbits, to_z, of_z}
use mir.ValLaws.{to_z-of_z}
use Rattle.std.proofs.lemmas.Int.{ints, unsigned_abs-mul, fits_signed_from_abs}
use Rattle.base.specs.Over.{sum, sum_z, min_z, max_z}
use Rattle.base.proofs.Choice.{pick_all}

-- ---- bounds

pub abs_neg : (z : ℤ) → nat_abs (neg_ℤ z) ≡ nat_abs z
abs_neg z = omega (arith, ints)

pub abs_add : (x y : ℤ) → nat_abs (x +ℤ y) ≤ nat_abs x + nat_abs y
abs_add x y = grind (arith, ints)

-- a product is at most the product of the bounds
pub abs_mul_le : (x y : ℤ) {m n : ℕ} → nat_abs x ≤ m → nat_abs y ≤ n → nat_abs (x *ℤ y) ≤ m * n
abs_mul_le x y {m} {n} p q = rw unsigned_abs-mul (mul-le-mul p q)

pub abs_quot : (z : ℤ) (b : ℕ) → nat_abs (quot_z z (pos b)) ≡ nat_abs z / b
abs_quot z b = grind (arith, ints)

pub abs_min : (x y : ℤ) {n : ℕ} → nat_abs x ≤ n → nat_abs y ≤ n → nat_abs (min_z x y) ≤ n
unfolding min_z
abs_min x y {n} p q = pick_all (λ (z : ℤ). nat_abs z ≤ n) (le_z x y) x y p q

pub abs_max : (x y : ℤ) {n : ℕ} → nat_abs x ≤ n → nat_abs y ≤ n → nat_abs (max_z x y) ≤ n
unfolding max_z
abs_max x y {n} p q = pick_all (λ (z : ℤ). nat_abs z ≤ n) (le_z x y) y x q p

-- the smaller of two is at most the second, the greater at least the first,
pub min_le : (x y : ℤ) → min_z x y ≤ℤ y
unfolding min_z
min_le x y = grind arith

pub max_ge : (x y : ℤ) → x ≤ℤ max_z x y
unfolding max_z
max_ge x y = grind arith

-- and at most what both are at most
pub max_le : (x y z : ℤ) → x ≤ℤ z → y ≤ℤ z → max_z x y ≤ℤ z
unfolding max_z
max_le x y z p q = grind arith

-- a difference that is not below 0
pub pos_minus : (a b : ℕ) → b ≤ a → pos a -ℤ pos b ≡ pos (a - b)
pos_minus a b h = omega (arith, ints)

-- z <= 0, tested
pub not_above_zero : (z : ℤ) → le_z z (pos 0) ≡ true → lt_z (pos 0) z ≡ false
not_above_zero z e = grind arith

pub above_zero : (z : ℤ) → le_z z (pos 0) ≡ false → (lt_z (pos 0) z ≡ true) × T (non_neg z)
above_zero z e = (grind arith, grind arith)

-- z > 0, tested
pub positive_is : (z : ℤ) → lt_z (pos 0) z ≡ true → (z ≡ pos (nat_abs z)) × (1 ≤ nat_abs z)
positive_is z e = (grind (arith, ints), grind (arith, ints))

-- ---- the machine's numbers

-- a product fits where the product of the bounds does
pub product_fits : {w : Width} (a b m n : ℕ) → a ≤ m → b ≤ n → T (ltb (m * n) (2 ^ bits w)) → Fits w (a * b)
product_fits a b m n p q t = record { fits = lt_of_le_of_lt (mul-le-mul p q) (lit< t) }

-- what a signed local holds, from the range and the value of the call that gave it
pub told : (w : Width) {z v : ℤ} → mag z < 2 ^ hbits w → z ≡ v → to_z w (of_z w z) ≡ v
told w {z} {v} ok e = to_z-of_z w z (record { sfits = ok }) ∙ e

-- ---- sums

pub sum_z_none : (f : ℕ → ℤ) → pos 0 ≡ sum_z 0 f
unfolding sum_z
sum_z_none f = refl

pub sum_z_next : (n : ℕ) (f : ℕ → ℤ) {t : ℤ} → t ≡ sum_z n f → t +ℤ f (n + 1) ≡ sum_z (n + 1) f
unfolding sum_z
sum_z_next n f e = rw (add-one, e)

pub sum_z_abs : (n m : ℕ) (f : ℕ → ℤ) → ((k : ℕ) → 1 ≤ k → k ≤ n → nat_abs (f k) ≤ m) → nat_abs (sum_z n f) ≤ n * m
unfolding sum_z
sum_z_abs zero m f h = omega arith
sum_z_abs (suc n) m f h =
    let a = sum_z_abs n m f (λ k l p. h k l (omega arith)) in
    rw suc-mul (omega (arith, h (suc n) (omega arith) (omega arith), abs_add (sum_z n f) (f (suc n))))

-- a sum is in range, and so it is with one more term, where no term is beyond m
pub sum_z_fits : (w : Width) (n m : ℕ) (f : ℕ → ℤ) → ((k : ℕ) → 1 ≤ k → k ≤ n → nat_abs (f k) ≤ m) → n * m < 2 ^ hbits w → SFits w (sum_z n f)
sum_z_fits w n m f h p = fits_signed_from_abs w (sum_z n f) (lt_of_le_of_lt (sum_z_abs n m f h) p)

distribute : (g : ℤ) (a b : ℕ) → g *ℤ pos a +ℤ g *ℤ pos b ≡ g *ℤ pos (a + b)
distribute (pos m) a b = ap pos (sym (mul-add m a b))
distribute (negsuc m) a b = sym (neg_ℤ-+ℤ (pos (suc m * a)) (pos (suc m * b))) ∙ ap (λ (n : ℕ). neg_ℤ (pos n)) (sym (mul-add (suc m) a b))

-- a factor that all terms share
pub sum_z_times : (n : ℕ) (g : ℤ) (f : ℕ → ℕ) (h : ℕ → ℤ) → ((k : ℕ) → h k ≡ g *ℤ pos (f k)) → g *ℤ pos (sum n f) ≡ sum_z n h
unfolding sum_z sum
sum_z_times zero g f h e = *ℤ-zero g
sum_z_times (suc n) g f h e = sym (ap₂ ◌+ℤ◌ (sym (sum_z_times n g f h e)) (e (suc n)) ∙ distribute g (sum n f) (f (suc n)))
