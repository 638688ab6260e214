-- What holds of each entry of a list, and of what is read past its end.
use Prim.Native.Nat.{ℕ, zero, suc, ◌+◌, ◌≤◌, ◌<◌}
use mathlib.Core.List.{List, [], ◌∷◌, ◌++◌}
use native.Mathlib.Omega.{arith}
use lib.ListN.{length, get_or, replicate}
use Rattle.base.specs.Over.{listed_from}

abbrev pub Each : {A : Type 0} → (A → Type 0) → A → List A → Type 0
Each P z xs = (n : ℕ) → P (get_or xs n z)

module _ {A : Type 0} (P : A → Type 0) (z : A) where
  pub each_none : P z → Each P z []
  each_none p n = p

  pub each_cons : (x : A) (xs : List A) → P x → Each P z xs → Each P z (x ∷ xs)
  each_cons x xs p h zero = p
  each_cons x xs p h (suc n) = h n

  pub each_append : (xs ys : List A) → Each P z xs → Each P z ys → Each P z (xs ++ ys)
  each_append [] ys h k n = k n
  each_append (x ∷ xs) ys h k zero = h 0
  each_append (x ∷ xs) ys h k (suc n) = each_append xs ys (λ m. h (suc m)) k n

  pub each_replicate : (m : ℕ) (x : A) → P z → P x → Each P z (replicate m x)
  each_replicate zero x p q n = p
  each_replicate (suc m) x p q zero = q
  each_replicate (suc m) x p q (suc n) = each_replicate m x p q n

  pub each_listed : (n m : ℕ) (f : ℕ → A) → P z → ((k : ℕ) → m ≤ k → k < m + n → P (f k)) → Each P z (listed_from n m f)
  unfolding listed_from
  each_listed zero m f p h k = p
  each_listed (suc n) m f p h zero = h m (omega arith) (omega arith)
  each_listed (suc n) m f p h (suc k) = each_listed n (suc m) f p (λ x l u. h x (omega arith) (omega arith)) k

  -- within the list it does not matter what is read past the end
  pub each_at : (xs : List A) (y : A) → Each P z xs → (n : ℕ) → n < length xs → P (get_or xs n y)
  each_at [] y h n l = absurd (omega arith)
  each_at (x ∷ xs) y h zero l = h 0
  each_at (x ∷ xs) y h (suc n) l = each_at xs y (λ m. h (suc m)) n (omega arith)
