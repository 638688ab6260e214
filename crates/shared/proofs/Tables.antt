-- Laws of the shared tables of a district: which numbers they are, that taking them twice is taking them once, and that no other number alters them.
use Prim.Native.Nat.{ℕ, zero, suc, ◌+◌, ◌≤◌, ◌<◌}
use mathlib.Core.Path.{◌≡◌, refl, sym, ap, ap₂, ◌∙◌}
use mathlib.Core.Bool.{Bool, true, false}
use mathlib.Core.List.{List, [], ◌∷◌}
use native.Mathlib.Nat.{zero-add}
use native.Mathlib.Omega.{arith}
use borrow.Author.Tests.{le-leb, lt-leb}
use lib.Dec.{eqb}
use lib.ListN.{length, get_or, set}
use lib.Pointwise.{pointwise}
use Rattle.base.specs.Same.{same}
use Rattle.base.specs.Choice.{pick}
use Rattle.base.proofs.Same.{same_is}
use Rattle.rules.specs.District.{District, limits_at, greatest_at, segments_at, value_at, is_shared, shared_from, shared_tables, same_tables}

-- ---- the numbers

-- the number at each place
shared_at : (xs : List ℕ) (place n : ℕ) → get_or (shared_from place xs) n 0 ≡ pick (is_shared (place + n)) (get_or xs n 0) 0
unfolding shared_from
shared_at [] place n = go (is_shared (place + n))
  where
    go : (t : Bool) → ◌≡◌ {A = ℕ} 0 (pick t 0 0)
    go true = refl
    go false = refl
shared_at (x ∷ xs) place zero = let e : place + 0 ≡ place = omega arith in rw e
shared_at (x ∷ xs) place (suc n) = let e : place + suc n ≡ place + 1 + n = omega arith in rw e (shared_at xs (place + 1) n)

-- one that is shared, and one that is not
pub shared_value : (d : District) (place : ℕ) → is_shared place ≡ true → value_at (shared_tables d) place ≡ value_at d place
unfolding shared_tables
shared_value d place e = shared_at d 0 place ∙ rw (zero-add, e)

pub own_value : (d : District) (place : ℕ) → is_shared place ≡ false → value_at (shared_tables d) place ≡ 0
unfolding shared_tables
own_value d place e = shared_at d 0 place ∙ rw (zero-add, e)

shared_length : (xs : List ℕ) (place : ℕ) → length (shared_from place xs) ≡ length xs
unfolding shared_from
shared_length [] place = refl
shared_length (x ∷ xs) place = ap suc (shared_length xs (place + 1))

pub tables_length : (d : District) → length (shared_tables d) ≡ length d
unfolding shared_tables
tables_length d = shared_length d 0

shared_twice : (xs : List ℕ) (place : ℕ) → shared_from place (shared_from place xs) ≡ shared_from place xs
unfolding shared_from
shared_twice [] place = refl
shared_twice (x ∷ xs) place = ap₂ ◌∷◌ (go (is_shared place)) (shared_twice xs (place + 1))
  where
    go : (t : Bool) → pick t (pick t x 0) 0 ≡ pick t x 0
    go true = refl
    go false = refl

pub tables_twice : (d : District) → shared_tables (shared_tables d) ≡ shared_tables d
unfolding shared_tables
tables_twice d = shared_twice d 0

pub same_tables_lem : (d e : District) → same_tables d e ≡ true → shared_tables d ≡ shared_tables e
unfolding same_tables
same_tables_lem d e t = same_is (shared_tables d) (shared_tables e) t

-- ---- a number that is not shared

shared_set : (xs : List ℕ) (place n x : ℕ) → is_shared (place + n) ≡ false → shared_from place (set xs n x) ≡ shared_from place xs
unfolding shared_from
shared_set [] place n x e = refl
shared_set (y ∷ xs) place zero x e =
    let z : place + 0 ≡ place = omega arith in
    let own : is_shared place ≡ false = sym (ap is_shared z) ∙ e in
    ap (λ (t : Bool). pick t x 0 ∷ shared_from (place + 1) xs) own ∙ sym (ap (λ (t : Bool). pick t y 0 ∷ shared_from (place + 1) xs) own)
shared_set (y ∷ xs) place (suc n) x e =
    let z : place + suc n ≡ place + 1 + n = omega arith in
    ap (λ (l : List ℕ). pick (is_shared place) y 0 ∷ l) (shared_set xs (place + 1) n x (sym (ap is_shared z) ∙ e))

pub set_own : (d : District) (place x : ℕ) → is_shared place ≡ false → shared_tables (set d place x) ≡ shared_tables d
unfolding shared_tables
set_own d place x e = let z : 0 + place ≡ place = omega arith in shared_set d 0 place x (ap is_shared z ∙ e)

pub limits_own : (place : ℕ) → limits_at ≤ place → place < greatest_at → is_shared place ≡ false
unfolding is_shared
limits_own place l h = rw (le-leb 1 place (omega arith), lt-leb place 5 (omega arith), lt-leb 22 place (omega arith))

pub segments_own : (place : ℕ) → segments_at ≤ place → is_shared place ≡ false
unfolding is_shared
segments_own place l = rw (le-leb 1 place (omega arith), lt-leb place 5 (omega arith), le-leb 22 place (omega arith), lt-leb place 1659 (omega arith))

-- the library's test whether two lists are the same, and the rules'
pub pointwise_same : (xs ys : List ℕ) → pointwise eqb xs ys ≡ same xs ys
unfolding same
pointwise_same [] [] = refl
pointwise_same [] (y ∷ ys) = refl
pointwise_same (x ∷ xs) [] = refl
pointwise_same (x ∷ xs) (y ∷ ys) = rw (pointwise_same xs ys)
