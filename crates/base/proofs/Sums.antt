-- Laws of sums and of greatest values over 1 to n.
use Prim.Native.Nat.{ℕ, zero, suc, ◌+◌, ◌*◌, ◌≤◌, ◌<◌, max}
use mathlib.Core.Path.{◌≡◌, refl, ap, sym, ◌∙◌}
use mathlib.Core.Logic.{⊎_elim}
use native.Mathlib.Nat.{mul-zero, zero-mul, mul-add, add-mul, suc-mul, le-max_left, le-max_right, le_trans, max-le, eq-or-lt_of_le}
use native.Mathlib.Numerals.{add-one}
use native.Mathlib.Omega.{arith}
use Rattle.base.specs.Over.{sum, most}

-- a number up to n + 1 is n + 1, or up to n
pub up_to : {k n : ℕ} {P : Type 0} → k ≤ suc n → (k ≡ suc n → P) → (k ≤ n → P) → P
up_to h last earlier = ⊎_elim last (λ l. earlier (omega arith)) (eq-or-lt_of_le h)

pub sum_none : (f : ℕ → ℕ) → 0 ≡ sum 0 f
unfolding sum
sum_none f = refl

pub sum_next : (n : ℕ) (f : ℕ → ℕ) {t : ℕ} → t ≡ sum n f → t + f (n + 1) ≡ sum (n + 1) f
unfolding sum
sum_next n f e = rw (add-one, e)

pub sum_end : (n m : ℕ) (f : ℕ → ℕ) {t : ℕ} → t ≡ sum m f → m ≤ n → n ≤ m → t ≡ sum n f
sum_end n m f e l h = let q : n ≡ m = omega arith in rw q e

pub sum_le : (n : ℕ) (f g : ℕ → ℕ) → ((k : ℕ) → 1 ≤ k → k ≤ n → f k ≤ g k) → sum n f ≤ sum n g
unfolding sum
sum_le zero f g h = omega arith
sum_le (suc n) f g h =
    let a = sum_le n f g (λ k l m. h k l (omega arith)) in
    let b = h (suc n) (omega arith) (omega arith) in
    omega arith

-- and one of them is less
pub sum_lt : (n : ℕ) (f g : ℕ → ℕ) → ((k : ℕ) → 1 ≤ k → k ≤ n → f k ≤ g k) → (k : ℕ) → 1 ≤ k → k ≤ n → f k < g k → sum n f < sum n g
unfolding sum
sum_lt zero f g h k l u s = absurd (omega arith)
sum_lt (suc n) f g h k l u s =
    up_to u
    (λ q. let e : f (suc n) < g (suc n) = rw q at s in omega (arith, sum_le n f g (λ j lj uj. h j lj (omega arith))))
    (λ un. omega (arith, sum_lt n f g (λ j lj uj. h j lj (omega arith)) k l un s, h (suc n) (omega arith) (omega arith)))

pub sum_cong : (n : ℕ) (f g : ℕ → ℕ) → ((k : ℕ) → 1 ≤ k → k ≤ n → f k ≡ g k) → sum n f ≡ sum n g
unfolding sum
sum_cong zero f g h = refl
sum_cong (suc n) f g h =
    let a = sum_cong n f g (λ k l m. h k l (omega arith)) in
    let b = h (suc n) (omega arith) (omega arith) in
    omega arith

-- a bound on each term
pub sum_bound : (n m : ℕ) (f : ℕ → ℕ) → ((k : ℕ) → 1 ≤ k → k ≤ n → f k ≤ m) → sum n f ≤ n * m
unfolding sum
sum_bound zero m f h = omega arith
sum_bound (suc n) m f h =
    let a = sum_bound n m f (λ k l u. h k l (omega arith)) in
    let b = h (suc n) (omega arith) (omega arith) in
    rw (suc-mul n m) (omega arith)

pub sum_more : (n m : ℕ) (f : ℕ → ℕ) → n ≤ m → sum n f ≤ sum m f
unfolding sum
sum_more n zero f h = let e : n ≡ 0 = omega arith in rw e (omega arith)
sum_more n (suc m) f h = up_to h (λ q. rw q (omega arith)) (λ u. omega (arith, sum_more n m f u))

pub sum_part : (n : ℕ) (f : ℕ → ℕ) (k : ℕ) → 1 ≤ k → k ≤ n → f k ≤ sum n f
unfolding sum
sum_part zero f k l h = absurd (omega arith)
sum_part (suc n) f k l h =
    up_to h (λ q. let e : f k ≡ f (suc n) = ap f q in omega arith) (λ u. omega (arith, sum_part n f k l u))

pub sum_add : (n : ℕ) (f g : ℕ → ℕ) → sum n (λ k. f k + g k) ≡ sum n f + sum n g
unfolding sum
sum_add zero f g = refl
sum_add (suc n) f g = let h = sum_add n f g in omega arith

pub sum_zero : (n : ℕ) → sum n (λ _. 0) ≡ 0
unfolding sum
sum_zero zero = refl
sum_zero (suc n) = let h = sum_zero n in omega arith

-- a double sum is exchanged
pub sum_swap : (n m : ℕ) (f : ℕ → ℕ → ℕ) → sum n (λ i. sum m (λ k. f i k)) ≡ sum m (λ k. sum n (λ i. f i k))
unfolding sum
sum_swap zero m f = sym (sum_zero m)
sum_swap (suc n) m f =
    ap (λ (x : ℕ). x + sum m (f (suc n))) (sum_swap n m f) ∙ sym (sum_add m (λ k. sum n (λ i. f i k)) (f (suc n)))

pub sum_mul : (n a : ℕ) (f : ℕ → ℕ) → sum n (λ k. a * f k) ≡ a * sum n f
unfolding sum
sum_mul zero a f = sym (mul-zero a)
sum_mul (suc n) a f = rw (sum_mul n a f, mul-add)

pub sum_mul_right : (n a : ℕ) (f : ℕ → ℕ) → sum n (λ k. f k * a) ≡ sum n f * a
unfolding sum
sum_mul_right zero a f = sym (zero-mul a)
sum_mul_right (suc n) a f = rw (sum_mul_right n a f, add-mul)

-- two sums that differ in the term i alone
pub sum_change : (n : ℕ) (f g : ℕ → ℕ) (i : ℕ) → 1 ≤ i → i ≤ n → ((k : ℕ) → 1 ≤ k → k ≤ n → (k ≡ i → ⊥) → f k ≡ g k) → sum n f + g i ≡ sum n g + f i
unfolding sum
sum_change zero f g i l h same = absurd (omega arith)
sum_change (suc n) f g i l h same =
    up_to h
    (λ q.
    let rest : sum n f ≡ sum n g = sum_cong n f g (λ k lk hk. same k lk (omega arith) (λ e. omega arith)) in
    let new : f (suc n) ≡ f i = ap f (sym q) in
    let old : g (suc n) ≡ g i = ap g (sym q) in
    omega arith)
    (λ u.
    let last : f (suc n) ≡ g (suc n) = same (suc n) (omega arith) (omega arith) (λ e. omega arith) in
    let rest = sum_change n f g i l u (λ k lk hk. same k lk (omega arith)) in
    omega arith)

-- ---- the greatest of 0 and f 1, .. f n

pub most_none : (f : ℕ → ℕ) → 0 ≡ most 0 f
unfolding most
most_none f = refl

pub most_next : (n : ℕ) (f : ℕ → ℕ) {t : ℕ} → t ≡ most n f → max t (f (n + 1)) ≡ most (n + 1) f
unfolding most
most_next n f e = rw (add-one, e)

pub most_part : (n : ℕ) (f : ℕ → ℕ) (k : ℕ) → 1 ≤ k → k ≤ n → f k ≤ most n f
unfolding most
most_part zero f k l h = absurd (omega arith)
most_part (suc n) f k l h =
    up_to h (λ q. rw q (le-max_right (most n f) (f (suc n)))) (λ u. le_trans (most_part n f k l u) (le-max_left (most n f) (f (suc n))))

pub most_bound : (n m : ℕ) (f : ℕ → ℕ) → ((k : ℕ) → 1 ≤ k → k ≤ n → f k ≤ m) → most n f ≤ m
unfolding most
most_bound zero m f h = omega arith
most_bound (suc n) m f h = max-le (most_bound n m f (λ k l u. h k l (omega arith))) (h (suc n) (omega arith) (omega arith))

pub most_cong : (n : ℕ) (f g : ℕ → ℕ) → ((k : ℕ) → 1 ≤ k → k ≤ n → f k ≡ g k) → most n f ≡ most n g
unfolding most
most_cong zero f g h = refl
most_cong (suc n) f g h = rw (most_cong n f g (λ k l u. h k l (omega arith)), h (suc n) (omega arith) (omega arith))
