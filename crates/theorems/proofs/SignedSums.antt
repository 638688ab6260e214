-- Sums of signed numbers: against sums of whole numbers, and of equal terms.
use Prim.Native.Nat.{ℕ, zero, suc, ◌≤◌}
use mathlib.Core.Path.{◌≡◌, refl, ap₂}
use native.Mathlib.Omega.{arith}
use lib.IntN.{ℤ, pos, ◌+ℤ◌}
use lib.Signed.{◌≤ℤ◌}
use Rattle.std.proofs.lemmas.Int.{ints}
use Rattle.base.specs.Over.{sum, sum_z}

pub sum_z_le : (n : ℕ) (f : ℕ → ℤ) (g : ℕ → ℕ) → ((k : ℕ) → 1 ≤ k → k ≤ n → f k ≤ℤ pos (g k)) → sum_z n f ≤ℤ pos (sum n g)
unfolding sum_z sum
sum_z_le zero f g h = omega (arith, ints)
sum_z_le (suc n) f g h =
    let before = sum_z_le n f g (λ k l u. h k l (omega arith)) in
    let last = h (suc n) (omega arith) (omega arith) in
    omega (arith, ints)

pub sum_z_pos : (n : ℕ) (f : ℕ → ℤ) (g : ℕ → ℕ) → ((k : ℕ) → 1 ≤ k → k ≤ n → f k ≡ pos (g k)) → sum_z n f ≡ pos (sum n g)
unfolding sum_z sum
sum_z_pos zero f g h = refl
sum_z_pos (suc n) f g h = rw (sum_z_pos n f g (λ k l u. h k l (omega arith)), h (suc n) (omega arith) (omega arith))

pub sum_z_cong : (n : ℕ) (f g : ℕ → ℤ) → ((k : ℕ) → 1 ≤ k → k ≤ n → f k ≡ g k) → sum_z n f ≡ sum_z n g
unfolding sum_z
sum_z_cong zero f g h = refl
sum_z_cong (suc n) f g h = ap₂ ◌+ℤ◌ (sum_z_cong n f g (λ k l u. h k l (omega arith))) (h (suc n) (omega arith) (omega arith))
