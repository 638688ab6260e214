-- Laws of choices by tests. `search picks` finds the case of a definition that goes by tests.
use Prim.Native.Nat.{ℕ, ◌≤◌, ◌<◌}
use mathlib.Core.Path.{◌≡◌, refl, sym, ◌∙◌}
use mathlib.Core.Bool.{Bool, true, false, ◌&&◌, ◌||◌}
use native.Mathlib.Omega.{arith}
use borrow.Author.Tests.{lt-ltb, le-ltb, le-leb, lt-leb, leb-true, leb-false, eq-eqb, ne_eqb}
use lib.Dec.{leb, eqb}
use Rattle.std.specs.Cmp.{both_ways}
use Rattle.std.proofs.lemmas.Bool.{and_from, and_left, and_right, and_parts}
use Rattle.base.specs.Choice.{pick}
use Rattle.base.specs.Over.{between}

pub pick_yes {ℓ} : {A : Type ℓ} (t : Bool) (x a b : A) → t ≡ true → x ≡ a → x ≡ pick t a b
pick_yes t x a b e f = rw e f

pub pick_no {ℓ} : {A : Type ℓ} (t : Bool) (x a b : A) → t ≡ false → x ≡ b → x ≡ pick t a b
pick_no t x a b e f = rw e f

pub and_yes : (s t x : Bool) → s ≡ true → x ≡ t → x ≡ (s && t)
and_yes s t x e f = rw e f

pub and_no : (s t x : Bool) → s ≡ false → x ≡ false → x ≡ (s && t)
and_no s t x e f = rw e f

pub or_yes : (s t x : Bool) → s ≡ true → x ≡ true → x ≡ (s || t)
or_yes s t x e f = rw e f

pub or_no : (s t x : Bool) → s ≡ false → x ≡ t → x ≡ (s || t)
or_no s t x e f = rw e f

pub ruleset picks = (refl, pick_yes, pick_no, and_yes, and_no, or_yes, or_no, lt-ltb, le-ltb, le-leb, lt-leb, eq-eqb, ne_eqb, arith)

-- ---- what tests say

pub lt_eqb : (a b : ℕ) → a < b → eqb a b ≡ false
lt_eqb a b l = ne_eqb a b (λ e. omega arith)

pub gt_eqb : (a b : ℕ) → b < a → eqb a b ≡ false
gt_eqb a b l = ne_eqb a b (λ e. omega arith)

pub between_yes : (a b x : ℕ) → a ≤ x → x ≤ b → between a b x ≡ true
between_yes a b x l h = rw (le-leb a x l, le-leb x b h)

-- two tests of which each holds where the other does
pub leb_same : (a b c d : ℕ) → (a ≤ b → c ≤ d) → (c ≤ d → a ≤ b) → leb a b ≡ leb c d
leb_same a b c d to from =
    both_ways (leb a b) (leb c d) (λ e. le-leb c d (to (leb-true a b e))) (λ e. le-leb a b (from (leb-true c d e)))

-- finds the case of a choice between such tests
pub ruleset cases = (refl, pick_yes, pick_no, and_from, and_left, and_right, le-leb, lt-leb, eq-eqb, ne_eqb, lt_eqb, gt_eqb, arith)

-- what holds of both answers holds of the one that is picked
pub pick_all {ℓ} : {A : Type ℓ} (P : A → Type 0) (t : Bool) (a b : A) → P a → P b → P (pick t a b)
pick_all P true a b h k = h
pick_all P false a b h k = k

-- of the first it need hold only where the test does
pub pick_by {ℓ} : {A : Type ℓ} (P : A → Type 0) (t : Bool) (a b : A) → (t ≡ true → P a) → P b → P (pick t a b)
pick_by P true a b h k = h refl
pick_by P false a b h k = k

pub between_in : (a b x : ℕ) → between a b x ≡ true → (a ≤ x) × (x ≤ b)
between_in a b x e = let t = and_parts (leb a x) (leb x b) e in (leb-true a x t.0, leb-true x b t.1)
