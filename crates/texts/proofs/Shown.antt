-- A number of a district that its field may hold is in the field's range as a text shows it, and is held as itself.
use Rattle.std.proofs.Common.{ℕ, suc, ◌-◌, ◌≡◌, Bool, true, false, ltb, leb, ◌⊎◌, inl, inr, refl, arith}
use borrow.Author.Tests.{leb-true, le-leb, le-ltb, ltb-true, ltb-false, lt-ltb}
use Rattle.std.proofs.lemmas.Bool.{and_parts, or_cases}
use Rattle.base.specs.Over.{between}
use Rattle.rules.specs.Format.{number, inside, ranged, field_at, Slot}
use Rattle.rules.specs.District.{District, pavements_of}
use Rattle.rules.specs.declared.Field.{Field}
use Rattle.texts.proofs.Fields.{field_all}
use Rattle.grammar.proofs.Bounds.{between_number, inside_between, gain_byte}
use Rattle.texts.specs.Numbers.{shown_in, in_field, held_as}

pub record Shows (f : Field) : Type 0 where
  pub shown : (x : ℕ) → inside f x ≡ true → (in_field f (shown_in f x) ≡ true) × (held_as (shown_in f x) ≡ x)

shows_number : (w lo hi : ℕ) → leb lo hi ≡ true → Shows (number w lo hi)
shows_number w lo hi e = record { shown = each }
  where
    each : (x : ℕ) → inside (number w lo hi) x ≡ true → (in_field (number w lo hi) (shown_in (number w lo hi) x) ≡ true) × (held_as (shown_in (number w lo hi) x) ≡ x)
    each x i =
        let b = inside_between lo hi (number w lo hi) x (between_number lo hi w lo hi e (omega arith) (omega arith)) i in
        rw (le-ltb hi lo (leb-true lo hi e), le-leb lo x b.0, le-leb x hi b.1) (refl, refl)

shows_gain : Shows (number 1 206 50)
unfolding ranged
shows_gain = record { shown = λ x e. go x e (or_cases (leb x 50) (between 206 255 x) e) (ltb x 128) refl }
  where
    go : (x : ℕ) → inside (number 1 206 50) x ≡ true → (leb x 50 ≡ true) ⊎ (between 206 255 x ≡ true) → (t : Bool) → ltb x 128 ≡ t
        → (in_field (number 1 206 50) (shown_in (number 1 206 50) x) ≡ true) × (held_as (shown_in (number 1 206 50) x) ≡ x)
    go x e (inr l) true q = absurd (let a = leb-true 206 x (and_parts _ (leb x 255) l).0 in let b = ltb-true x 128 q in omega arith)
    go x e (inl l) true q = rw (q, l) (refl, refl)
    go x e (inr l) false q =
        let a = leb-true 206 x (and_parts (leb 206 x) (leb x 255) l).0 in
        let b = gain_byte x e in
        rw (q, lt-ltb x 256 b) (rw (le-leb (256 - suc x) 49 (omega arith)) refl, omega arith)
    go x e (inl l) false q = absurd (let a = leb-true x 50 l in let b = ltb-false x 128 q in omega arith)

-- of a district that has a pavement type
pub field_shows : (d : District) → leb 1 (pavements_of d) ≡ true → (s : Slot) (n : ℕ) → Shows (field_at d s n)
field_shows d some = field_all Shows (λ w lo hi h l e. shows_number w lo hi e) shows_gain (shows_number 0 0 0 refl) d (shows_number 1 1 (pavements_of d) some)
