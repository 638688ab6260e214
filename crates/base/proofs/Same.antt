-- The law of the test whether two lists of numbers are the same.
use Prim.Native.Nat.{ℕ}
use mathlib.Core.Path.{◌≡◌, refl, ap₂}
use mathlib.Core.Bool.{true}
use mathlib.Core.List.{List, [], ◌∷◌}
use borrow.Author.Tests.{eqb-true}
use lib.Dec.{eqb}
use Rattle.base.specs.Same.{same}
use Rattle.std.proofs.lemmas.Bool.{and_parts}

-- the test says what it is for
pub same_is : (xs ys : List ℕ) → same xs ys ≡ true → xs ≡ ys
unfolding same
same_is [] [] e = refl
same_is [] (y ∷ ys) e = cc
same_is (x ∷ xs) [] e = cc
same_is (x ∷ xs) (y ∷ ys) e = let t = and_parts (eqb x y) (same xs ys) e in ap₂ ◌∷◌ (eqb-true x y t.0) (same_is xs ys t.1)
