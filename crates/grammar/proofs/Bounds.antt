-- What being inside a field's range says of a number, and which range each field has.
use Prim.Native.Nat.{ℕ, ◌+◌, ◌-◌, ◌≤◌, ◌<◌}
use mathlib.Core.Path.{◌≡◌, sym, refl, ◌∙◌}
use mathlib.Core.Bool.{Bool, true, false, ◌&&◌, ◌||◌}
use native.Mathlib.Omega.{arith}
use mathlib.Core.Logic.{◌⊎◌, inl, inr, ⊎_elim}
use lib.Dec.{leb, ltb, lit≤}
use lib.IntN.{nat_abs}
use borrow.Author.Tests.{leb-true, le-leb, ltb-true, ltb-false, lt-ltb, le-ltb, ne_eqb}
use Rattle.base.specs.Choice.{pick}
use Rattle.base.specs.Over.{between}
use Rattle.std.proofs.lemmas.Bool.{and_parts, or_cases}
use Rattle.base.proofs.Choice.{pick_yes, pick_all, and_yes}
use Rattle.base.specs.Bytes.{signed}
use Rattle.rules.specs.District.{District, most_distresses, length_at, width_at, bars_at, ratings_at, leader_at, distresses_of, greatest_of}
use Rattle.rules.specs.Format.{number, absent, ranged, inside, rating_field, segment_field, Slot}
use Rattle.rules.specs.declared.Field.{Field}

-- a field whose range does not run past the largest number, and lies from a to b
pub record Between (a b : ℕ) (f : Field) : Type 0 where
  pub straight : leb f.lo f.hi ≡ true
  pub least : a ≤ f.lo
  pub most : f.hi ≤ b

-- for the ruleset: `search` does not find the property of `pick_all`
pub between_pick : (a b : ℕ) (t : Bool) (f g : Field) → Between a b f → Between a b g → Between a b (pick t f g)
between_pick a b t f g h k = pick_all (Between a b) t f g h k

pub between_number : (a b w lo hi : ℕ) → leb lo hi ≡ true → a ≤ lo → hi ≤ b → Between a b (number w lo hi)
between_number a b w lo hi e h k = record { straight = e; least = h; most = k }

pub ruleset betweens = (tt, refl, lit≤, between_pick, between_number)

pub inside_between : (a b : ℕ) (f : Field) (x : ℕ) → Between a b f → inside f x ≡ true → (a ≤ x) × (x ≤ b)
unfolding ranged
inside_between a b f x k e =
    let lo = f.lo in
    let hi = f.hi in
    let both = and_parts (leb lo x) (leb x hi) (pick_yes (leb lo hi) (leb lo x && leb x hi) (leb lo x && leb x hi) (leb x hi || between lo 255 x) k.straight refl ∙ e) in
    let l = leb-true lo x both.0 in
    let h = leb-true x hi both.1 in
    (omega (arith, k.least), omega (arith, k.most))

pub inside_number : (w lo hi x : ℕ) → lo ≤ x → x ≤ hi → inside (number w lo hi) x ≡ true
unfolding ranged
inside_number w lo hi x a b =
    sym (pick_yes (leb lo hi) true (leb lo x && leb x hi) (leb x hi || between lo 255 x) (le-leb lo hi (omega arith)) (and_yes (leb lo x) (leb x hi) true (le-leb lo x a) (sym (le-leb x hi b))))

-- a number that the district does not have
pub absent_zero : (x : ℕ) → inside absent x ≡ true → x ≡ 0
absent_zero x e = omega (arith, (inside_between 0 0 absent x (between_number 0 0 0 0 0 refl (omega arith) (omega arith)) e).1)

-- a number inside the range of a gain is a byte, and stands for at most 50
pub gain_byte : (x : ℕ) → inside (number 1 206 50) x ≡ true → x < 256
unfolding ranged
gain_byte x e =
    ⊎_elim (λ l. omega (arith, leb-true x 50 l)) (λ l. omega (arith, leb-true x 255 (and_parts (leb 206 x) (leb x 255) l).1))
    (or_cases (leb x 50) (between 206 255 x) e)

pub gain_most : (x : ℕ) → inside (number 1 206 50) x ≡ true → nat_abs (signed x) ≤ 50
unfolding ranged
gain_most x e = go (or_cases (leb x 50) (between 206 255 x) e) (ltb x 128) refl
  where
    go : (leb x 50 ≡ true) ⊎ (between 206 255 x ≡ true) → (t : Bool) → ltb x 128 ≡ t → nat_abs (signed x) ≤ 50
    go (inr l) true q = absurd (let a = leb-true 206 x (and_parts _ (leb x 255) l).0 in let b = ltb-true x 128 q in omega arith)
    go (inl l) true q = rw q (leb-true x 50 l)
    go (inr l) false q =
        rw (q, lt-ltb x 256 (gain_byte x e)) (omega (arith, leb-true 206 x (and_parts (leb 206 x) (leb x 255) l).0))
    go (inl l) false q = absurd (let a = leb-true x 50 l in let b = ltb-false x 128 q in omega arith)

-- ---- ratings

pub segment_rating : (d : District) (s : Slot) (k : ℕ) → 1 ≤ k → k ≤ most_distresses → segment_field d s (ratings_at + (k - 1)) ≡ rating_field d (k - 1)
segment_rating d s k h l =
    let n = ratings_at + (k - 1) in
    let counted : n - ratings_at ≡ k - 1 = omega arith in
    rw (ne_eqb n 0 (λ e. omega arith), le-ltb n length_at (omega arith), ne_eqb n length_at (λ e. omega arith), ne_eqb n width_at (λ e. omega arith), ne_eqb n bars_at (λ e. omega arith), lt-ltb n leader_at (omega arith), counted)

pub rating_between : (d : District) (k : ℕ) → 1 ≤ k → Between 0 (greatest_of d k) (rating_field d (k - 1))
rating_between d k h =
    let g = greatest_of d k in
    let e : k - 1 + 1 ≡ k = omega arith in
    rw e (between_pick 0 g (ltb (k - 1) (distresses_of d)) (number 1 0 g) absent (between_number 0 g 1 0 g (le-leb 0 g (omega arith)) (omega arith) (omega arith)) (between_number 0 g 0 0 0 refl (omega arith) (omega arith)))
