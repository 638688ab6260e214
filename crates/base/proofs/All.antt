-- Laws of tests over 1 to n.
use Prim.Native.Nat.{ℕ, zero, suc, ◌+◌, ◌≤◌}
use mathlib.Core.Path.{◌≡◌, refl, subst}
use mathlib.Core.Bool.{Bool, true, false, and-false}
use native.Mathlib.Numerals.{add-one}
use native.Mathlib.Omega.{arith}
use Rattle.base.specs.Over.{all}
use Rattle.base.proofs.Sums.{up_to}

pub all_none : (f : ℕ → Bool) → all 0 f ≡ true
unfolding all
all_none f = refl

pub all_next : (n : ℕ) (f : ℕ → Bool) → all n f ≡ true → f (n + 1) ≡ true → all (n + 1) f ≡ true
unfolding all
all_next n f e h = rw (add-one, e) (rw add-one at h)

pub all_end : (n m : ℕ) (f : ℕ → Bool) → all m f ≡ true → m ≤ n → n ≤ m → all n f ≡ true
all_end n m f e l h = let q : n ≡ m = omega arith in rw q e

-- one that fails is enough
pub all_fails : (n : ℕ) (f : ℕ → Bool) (k : ℕ) → 1 ≤ k → k ≤ n → f k ≡ false → all n f ≡ false
unfolding all
all_fails zero f k l h e = absurd (omega arith)
all_fails (suc n) f k l h e =
    up_to h (λ q. rw (subst (λ (m : ℕ). f m ≡ false) q e) (and-false (all n f))) (λ u. rw (all_fails n f k l u e))

pub all_at : (n : ℕ) (f : ℕ → Bool) → all n f ≡ true → (k : ℕ) → 1 ≤ k → k ≤ n → f k ≡ true
all_at n f e k l h = known (f k) refl
  where
    known : (x : Bool) → f k ≡ x → f k ≡ true
    known true q = q
    known false q = cc (all_fails n f k l h q)

pub all_cong : (n : ℕ) (f g : ℕ → Bool) → ((k : ℕ) → 1 ≤ k → k ≤ n → f k ≡ g k) → all n f ≡ all n g
unfolding all
all_cong zero f g h = refl
all_cong (suc n) f g h = rw (all_cong n f g (λ k l u. h k l (omega arith)), h (suc n) (omega arith) (omega arith))

-- all hold where each does
pub all_true : (n : ℕ) (f : ℕ → Bool) → ((k : ℕ) → 1 ≤ k → k ≤ n → f k ≡ true) → all n f ≡ true
unfolding all
all_true zero f h = refl
all_true (suc n) f h = rw (all_true n f (λ k l u. h k l (omega arith))) (h (suc n) (omega arith) (omega arith))

-- ---- what a loop found of each number passed

module _ (P : ℕ → Type 0) where
  pub each_none : (k : ℕ) → 1 ≤ k → k ≤ 0 → P k
  each_none k l h = absurd (omega arith)
