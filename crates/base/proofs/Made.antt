-- An array that `array::from_fn` makes, by calls that leave what is called as it was: what holds of each call's number and answer holds of
-- the array's entry.
use Prim.Native.Nat.{ℕ, zero, suc, ◌+◌, ◌≤◌, ◌<◌}
use mathlib.Core.Path.{◌≡◌}
use mathlib.Core.List.{List}
use native.Mathlib.Omega.{arith}
use lib.ListN.{get_or}
use Rattle.std.specs.Array.{IsFromFnResultFrom, IsFromFnResult}
use Rattle.std.specs.Fn.{Mut, Called}

module _ {F B : Type 0} {g : Mut F (ℕ × Unit {0}) B} {f : F} {n : ℕ} (P : ℕ → B → Type 0) (called : (x : ℕ) (y : B) (f₂ : F) → x < n → Called g f (x, tt) y f₂ → (f₂ ≡ f) × P x y) where
  made_from : (ys : List B) (i k m : ℕ) (d : B) → i + k ≤ n → m < k → IsFromFnResultFrom g f ys i k → P (i + m) (get_or ys (i + m) d)
  made_from ys i zero m d room high made = absurd (omega arith)
  made_from ys i (suc k) zero d room high made =
      let e : i + 0 ≡ i = omega arith in
      rw (e, made.2.1 d) (called i made.1 made.0 (omega arith) made.3).1
  made_from ys i (suc k) (suc m) d room high made =
      let e : i + suc m ≡ i + 1 + m = omega arith in
      let same : made.0 ≡ f = (called i made.1 made.0 (omega arith) made.3).0 in
      rw e (made_from ys (i + 1) k m d (omega arith) (omega arith) (rw same at made.4))

  pub made_at : {ys : List B} → IsFromFnResult g f ys n → (m : ℕ) (d : B) → m < n → P m (get_or ys m d)
  made_at {ys} made m d high =
      let e : 0 + m ≡ m = omega arith in
      rw e at (made_from ys 0 n m d (omega arith) high made.each)
