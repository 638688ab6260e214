-- Laws of numbers in their ranges.
use Prim.Native.Nat.{ℕ, ◌^◌, ◌≤◌, ◌<◌}
use mathlib.Core.Bool.{Bool, true, false, ◌||◌}
use mathlib.Core.List.{List}
use Rattle.std.specs.Prelude.{Option, None, Some}
use mathlib.Core.Path.{◌≡◌, refl}
use native.Mathlib.Omega.{arith}
use lib.Dec.{leb, ltb}
use borrow.Author.Tests.{lt-leb, ltb-false}
use Rattle.base.specs.Choice.{only}
use Rattle.base.specs.Over.{between, listed_from}
use Rattle.base.specs.Text.{held}
use Rattle.std.proofs.lemmas.Bool.{and_right}
use Rattle.base.proofs.Choice.{pick_all}
use Rattle.rules.specs.Deck.{layout, row, range_of, only_inside, field_on, or_zero, number_on, numbers_on, counts_in}
use Rattle.rules.specs.District.{most_segments, segments_of}
use Rattle.rules.specs.Format.{inside, ranged}
use Rattle.rules.specs.declared.Field.{Field}
use Rattle.grammar.proofs.Bounds.{Between, inside_between, between_number}

inside_over : (f : Field) (v : ℕ) → f.hi < v → 255 < v → inside f v ≡ false
unfolding ranged
inside_over f v h k =
    pick_all (λ (x : Bool). x ≡ false) (leb f.lo f.hi) (between f.lo f.hi v) (leb v f.hi || between f.lo 255 v)
    (and_right (leb f.lo v) (leb v f.hi) (lt-leb v f.hi h))
    (rw (lt-leb v f.hi h) (and_right (leb f.lo v) (leb v 255) (lt-leb v 255 k)))

-- what 64 bits do not hold is in no range of theirs
pub inside_held : (f : Field) (o : Option ℕ) → f.hi < 2 ^ 64 → only_inside f (held o) ≡ only_inside f o
unfolding only_inside held
inside_held f None h = refl
inside_held f (Some v) h = go (ltb v (2 ^ 64)) refl
  where
    go : (t : Bool) → ltb v (2 ^ 64) ≡ t → only_inside f (only t v) ≡ only (inside f v) v
    go true e = refl
    go false e =
        let l = ltb-false v (2 ^ 64) e in
        rw (inside_over f v (omega arith) (omega arith))

range_most : (m : ℕ) (f : Field) (o : Option ℕ) → Between 0 m f → or_zero (only_inside f o) ≤ m
unfolding or_zero only_inside
range_most m f None b = omega arith
range_most m f (Some v) b = go (inside f v) refl
  where
    go : (t : Bool) → inside f v ≡ t → or_zero (only t v) ≤ m
    go true e = (inside_between 0 m f v b e).1
    go false e = omega arith

-- a deck has no more segments than a file, whatever its counts card says
pub segments_few : (deck : List ℕ) → segments_of (counts_in deck) ≤ most_segments
unfolding counts_in numbers_on number_on field_on row layout range_of listed_from
segments_few deck = range_most most_segments _ _ (between_number 0 most_segments 1 0 most_segments refl (omega arith) (omega arith))
