-- What a loop over the numbers 1 to n has come to: before number t, the t - 1 first ones are passed.
use Prim.Native.Nat.{ℕ, ◌+◌, ◌-◌, ◌≤◌}
use mathlib.Core.Path.{◌≡◌, subst}
use native.Mathlib.Omega.{arith}
use Rattle.base.specs.Over.{sum}
use Rattle.base.proofs.Sums.{sum_next}

-- what holds of the next number in one spelling holds in the other
step : (P : ℕ → ℕ → Type 0) (t : ℕ) → 1 ≤ t → P (t - 1 + 1) (t - 1 + 1) → P t (t + 1 - 1)
step P t h p =
    let now : t - 1 + 1 ≡ t = omega arith in
    let next : t - 1 + 1 ≡ t + 1 - 1 = omega arith in
    subst (λ (k : ℕ). P k (t + 1 - 1)) now (subst (λ (k : ℕ). P (t - 1 + 1) k) next p)

pub sum_passed : (t : ℕ) (f : ℕ → ℕ) {s : ℕ} → 1 ≤ t → s ≡ sum (t - 1) f → s + f t ≡ sum (t + 1 - 1) f
sum_passed t f {s} h e = step (λ k n. s + f k ≡ sum n f) t h (sum_next (t - 1) f e)
