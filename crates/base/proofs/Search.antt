-- Laws of the search for the first of many.
use Prim.Native.Nat.{ℕ, zero, suc, ◌≤◌, ◌<◌}
use mathlib.Core.Path.{◌≡◌, refl, subst}
use mathlib.Core.Logic.{◌⊎◌, inl, inr, ⊎_elim}
use mathlib.Core.Bool.{Bool, true, false}
use Rattle.std.specs.Prelude.{Option, None, Some}
use native.Mathlib.Omega.{arith}
use Rattle.base.specs.Choice.{only}
use Rattle.base.specs.Search.{first, or_else}
use Rattle.base.proofs.Sums.{up_to}

or_else_left : {A : Type 0} (x y : Option A) → or_else x y ≡ None → x ≡ None
or_else_left None y e = refl
or_else_left (Some a) y e = e

or_else_right : {A : Type 0} (x y : Option A) → or_else x y ≡ None → y ≡ None
or_else_right None y e = e
or_else_right (Some a) y e = cc

pub or_else_none : {A : Type 0} (x y : Option A) → or_else x y ≡ None → (x ≡ None) × (y ≡ None)
or_else_none x y e = (or_else_left x y e, or_else_right x y e)

-- what is found of two is the first, or the second where the first is nothing
or_else_found : {A : Type 0} (x y : Option A) {a : A} → or_else x y ≡ Some a → (x ≡ Some a) ⊎ ((x ≡ None) × (y ≡ Some a))
or_else_found (Some b) y e = inl e
or_else_found None y e = inr (refl, e)

pub or_else_assoc : {A : Type 0} (x y z : Option A) → or_else (or_else x y) z ≡ or_else x (or_else y z)
or_else_assoc (Some a) y z = refl
or_else_assoc None y z = refl

pub only_none : {A : Type 0} (t : Bool) (x : A) → only t x ≡ None → t ≡ false
only_none true x e = cc
only_none false x e = refl

pub only_some : {A : Type 0} (t : Bool) {x y : A} → only t x ≡ Some y → (t ≡ true) × (x ≡ y)
only_some true e = (refl, cc)
only_some false e = absurd cc

-- none where each is none
pub first_none : {A : Type 0} (n : ℕ) (f : ℕ → Option A) → ((k : ℕ) → 1 ≤ k → k ≤ n → f k ≡ None) → first n f ≡ None
unfolding first
first_none zero f h = refl
first_none (suc n) f h = rw (first_none n f (λ k l u. h k l (omega arith))) (h (suc n) (omega arith) (omega arith))

-- the one at k where those before it are none
pub first_found : {A : Type 0} (n : ℕ) (f : ℕ → Option A) (k : ℕ) (x : A) → 1 ≤ k → k ≤ n → ((j : ℕ) → 1 ≤ j → j < k → f j ≡ None) → f k ≡ Some x → first n f ≡ Some x
unfolding first
first_found zero f k x l h before e = absurd (omega arith)
first_found (suc n) f k x l h before e =
    up_to h
    (λ q. rw (first_none n f (λ j lj u. before j lj (omega arith))) (subst (λ (m : ℕ). f m ≡ Some x) q e))
    (λ u. rw (first_found n f k x l u before e))

-- where the first is none, each is
pub first_at : {A : Type 0} (n : ℕ) (f : ℕ → Option A) → first n f ≡ None → (k : ℕ) → 1 ≤ k → k ≤ n → f k ≡ None
unfolding first
first_at zero f e k l h = absurd (omega arith)
first_at (suc n) f e k l h =
    up_to h
    (λ q. rw q (or_else_right (first n f) (f (suc n)) e))
    (λ u. first_at n f (or_else_left (first n f) (f (suc n)) e) k l u)

-- where a search for the first ended: something is there, and nothing before it
pub record Ended {A : Type 0} (n : ℕ) (f : ℕ → Option A) (a : A) : Type 0 where
  pub at : ℕ
  pub low : 1 ≤ at
  pub high : at ≤ n
  pub found : f at ≡ Some a
  pub before : (k : ℕ) → 1 ≤ k → k < at → f k ≡ None

pub first_ended : {A : Type 0} (n : ℕ) (f : ℕ → Option A) (a : A) → first n f ≡ Some a → Ended n f a
unfolding first
first_ended zero f a e = absurd cc
first_ended (suc n) f a e =
    ⊎_elim
    (λ here.
    let w = first_ended n f a here in
    record { at = w.at; low = w.low; high = omega arith; found = w.found; before = w.before })
    (λ last.
    record { at = suc n; low = omega arith; high = omega arith; found = last.1; before = λ k l h. first_at n f last.0 k l (omega arith) })
    (or_else_found (first n f) (f (suc n)) e)

-- what holds of each that is something holds of the first
module _ {A : Type 0} (Q : A → Type 0) where
  pub or_else_some : (x y : Option A) {a : A} → ((a : A) → x ≡ Some a → Q a) → ((a : A) → y ≡ Some a → Q a) → or_else x y ≡ Some a → Q a
  or_else_some (Some b) y {a} qx qy e = qx a e
  or_else_some None y {a} qx qy e = qy a e

  pub first_some : (n : ℕ) (f : ℕ → Option A) → ((k : ℕ) → 1 ≤ k → k ≤ n → (a : A) → f k ≡ Some a → Q a) → (a : A) → first n f ≡ Some a → Q a
  unfolding first
  first_some zero f each a e = absurd cc
  first_some (suc n) f each a e =
      or_else_some (first n f) (f (suc n)) (first_some n f (λ k l h. each k l (omega arith))) (each (suc n) (omega arith) (omega arith)) e
