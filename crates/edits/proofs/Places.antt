-- Places past the last, and the range of a rating.
use Prim.Native.Nat.{ℕ, zero, suc, min, ◌+◌, ◌-◌, ◌≤◌}
use mathlib.Core.Path.{◌≡◌, refl, sym}
use mathlib.Core.Bool.{true}
use mathlib.Core.List.{List, [], ◌∷◌}
use native.Mathlib.Omega.{arith}
use borrow.Author.Tests.{le-leb, lt-ltb}
use lib.Dec.{leb}
use lib.ListN.{get_or, set, length}
use lib.Seq.{set_out}
use Rattle.base.specs.Over.{between}
use Rattle.base.proofs.Choice.{between_in}
use Rattle.rules.specs.District.{District, distresses_of, greatest_of}
use Rattle.rules.specs.Format.{ranged, inside, rating_range}

pub past_set : (l : List ℕ) (n x : ℕ) → length l ≤ n → l ≡ set l n x
past_set l n x h = sym (set_out l n x h)

-- a place that is cut down to one past the last
pub capped_get : (l : List ℕ) (n m : ℕ) → length l ≤ m → get_or l (min n m) 0 ≡ get_or l n 0
capped_get [] n m h = refl
capped_get (x ∷ l) zero m h = let e : min 0 m ≡ 0 = omega arith in rw e
capped_get (x ∷ l) (suc n) zero h = absurd (omega arith)
capped_get (x ∷ l) (suc n) (suc m) h = let e : min (suc n) (suc m) ≡ suc (min n m) = omega arith in rw e (capped_get l n m (omega arith))

pub capped_set : (l : List ℕ) (n m x : ℕ) → length l ≤ m → set l (min n m) x ≡ set l n x
capped_set [] n m x h = refl
capped_set (y ∷ l) zero m x h = let e : min 0 m ≡ 0 = omega arith in rw e
capped_set (y ∷ l) (suc n) zero x h = absurd (omega arith)
capped_set (y ∷ l) (suc n) (suc m) x h = let e : min (suc n) (suc m) ≡ suc (min n m) = omega arith in rw (e, capped_set l n m x (omega arith))

-- the range that the file gives the rating of a distress that there is
pub rating_inside : (d : District) (k rating : ℕ) → between 1 (distresses_of d) k ≡ true → inside (rating_range d k) rating ≡ leb rating (greatest_of d k)
unfolding ranged
rating_inside d k rating t =
    let b = between_in 1 (distresses_of d) k t in
    let e : k - 1 + 1 ≡ k = omega arith in
    rw (lt-ltb (k - 1) (distresses_of d) (omega arith), e, le-leb 0 (greatest_of d k) (omega arith), le-leb 0 rating (omega arith))
