-- Laws of parts of bytes, and of digits that are read from the first to the last.
use Prim.Native.Nat.{ℕ, ◌+◌, ◌-◌, ◌*◌, ◌^◌, ◌≤◌}
use mathlib.Core.Bool.{Bool, true, false}
use mathlib.Core.List.{List, [], ◌∷◌, ◌++◌}
use Rattle.std.specs.Prelude.{Option, None, Some}
use mathlib.Core.Path.{◌≡◌, refl, sym, ap, ◌∙◌}
use native.Mathlib.Omega.{arith}
use lib.Dec.{ltb, eqb}
use lib.ListN.{length, take, drop, length-append}
use lib.Seq.{take_at, drop_at}
use borrow.Author.Tests.{le-ltb, ltb-false}
use Rattle.base.specs.Choice.{pick, only}
use Rattle.base.specs.Over.{between}
use Rattle.base.specs.Text.{up_to, on_from, value_from, going_on, held}

-- ---- up to the first b, and on from it

pub up_on : (b : ℕ) (bs : List ℕ) → up_to b bs ++ on_from b bs ≡ bs
unfolding up_to on_from
up_on b [] = refl
up_on b (x ∷ bs) = go (up_on b bs) (eqb x b)
  where
    go : up_to b bs ++ on_from b bs ≡ bs → (t : Bool) → pick t [] (x ∷ up_to b bs) ++ pick t (x ∷ bs) (on_from b bs) ≡ x ∷ bs
    go e true = refl
    go e false = ap (λ (l : List ℕ). x ∷ l) e

module _ (b : ℕ) (bs : List ℕ) where
  pub up_fits : length (up_to b bs) ≤ length bs
  up_fits = omega (arith, ap length (up_on b bs), length-append (up_to b bs) (on_from b bs))

  pub up_taken : (n : ℕ) → n ≡ length (up_to b bs) → take n bs ≡ up_to b bs
  up_taken n e = ap (take n) (sym (up_on b bs)) ∙ take_at (up_to b bs) (on_from b bs) n (sym e)

  pub on_dropped : (n : ℕ) → n ≡ length (up_to b bs) → drop n bs ≡ on_from b bs
  on_dropped n e = ap (drop n) (sym (up_on b bs)) ∙ drop_at (up_to b bs) (on_from b bs) n (sym e)

-- ---- digits

-- a value that 64 bits do not hold is held no more, whatever follows
held_over : (v : ℕ) (bs : List ℕ) → 2 ^ 64 ≤ v → held (value_from v bs) ≡ None
unfolding held value_from
held_over v [] h = rw (le-ltb v (2 ^ 64) h)
held_over v (b ∷ bs) h = go (between 48 57 b) (held_over (v * 10 + (b - 48)) bs (omega arith))
  where
    go : (t : Bool) → held (value_from (v * 10 + (b - 48)) bs) ≡ None → held (pick t (value_from (v * 10 + (b - 48)) bs) None) ≡ None
    go true e = e
    go false e = refl

-- two runs of digits are read as one
pub value_append : (xs bs : List ℕ) (v : ℕ) → value_from v (xs ++ bs) ≡ going_on (value_from v xs) bs
unfolding value_from going_on
value_append [] bs v = refl
value_append (x ∷ xs) bs v = go (between 48 57 x) (value_from (v * 10 + (x - 48)) (xs ++ bs)) (value_from (v * 10 + (x - 48)) xs) (value_append xs bs (v * 10 + (x - 48)))
  where
    go : (t : Bool) (a b : Option ℕ) → a ≡ going_on b bs → pick t a None ≡ going_on (pick t b None) bs
    go true a b e = e
    go false a b e = refl

-- what 64 bits do not hold may be left out on the way
pub held_way : (o : Option ℕ) (bs : List ℕ) → held (going_on (held o) bs) ≡ held (going_on o bs)
unfolding going_on held
held_way None bs = refl
held_way (Some v) bs = go (ltb v (2 ^ 64)) refl
  where
    go : (t : Bool) → ltb v (2 ^ 64) ≡ t → held (going_on (only t v) bs) ≡ held (value_from v bs)
    go true e = refl
    go false e = sym (held_over v bs (ltb-false v (2 ^ 64) e))
