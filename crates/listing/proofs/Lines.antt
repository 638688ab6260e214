-- Laws of lines that are printed one after another.
use Prim.Native.Nat.{ℕ, zero, suc, ◌+◌, ◌-◌, ◌*◌, ◌≤◌, ◌<◌}
use mathlib.Core.List.{List, ◌++◌}
use mathlib.Core.Path.{◌≡◌, refl, ap₂}
use native.Mathlib.Nat.{mul-suc}
use native.Mathlib.Omega.{arith}
use lib.ListN.{length, length-append}
use Rattle.listing.specs.Listing.{lines_from}

-- a line is to come; it is the step of this recursion, and pages has that of its own, the lines of rows
pub lines_next : (n i : ℕ) (f : ℕ → List ℕ) → i < n → lines_from (n - i) (i + 1) f ≡ f (i + 1) ++ lines_from (n - (i + 1)) (i + 1 + 1) f
unfolding lines_from
lines_next n i f h =
    let more : n - i ≡ suc (n - (i + 1)) = omega arith in
    rw more

pub lines_few : (n i : ℕ) (f : ℕ → List ℕ) (m : ℕ) → ((k : ℕ) → length (f k) ≤ m) → length (lines_from n i f) ≤ m * n
unfolding lines_from
lines_few zero i f m h = omega arith
lines_few (suc n) i f m h = omega (arith, length-append (f i) (lines_from n (i + 1) f), h i, lines_few n (i + 1) f m h, mul-suc m n)

-- where each of them is the same
pub lines_alike : (n i : ℕ) (f g : ℕ → List ℕ) → ((k : ℕ) → i ≤ k → k < i + n → f k ≡ g k) → lines_from n i f ≡ lines_from n i g
unfolding lines_from
lines_alike zero i f g h = refl
lines_alike (suc n) i f g h = ap₂ ◌++◌ (h i (omega arith) (omega arith)) (lines_alike n (i + 1) f g (λ k l u. h k (omega arith) (omega arith)))
