-- A number of a text that is in its field's range is one that the field may hold.
use Rattle.std.proofs.Common.{ℕ, ◌-◌, ◌<◌, ◌≡◌, Bool, true, false, ◌&&◌, ltb, leb, ℤ, pos, negsuc, refl, arith}
use borrow.Author.Tests.{leb-true, le-leb, lt-leb, ltb-true, ltb-false, lt-ltb}
use Rattle.std.specs.Int.Signed.{le_z}
use Rattle.std.proofs.lemmas.Bool.{and_parts}
use Rattle.rules.specs.District.{District, pavements_of}
use Rattle.rules.specs.Format.{number, absent, inside, ranged, field_at, Slot}
use Rattle.rules.specs.declared.Field.{Field}
use Rattle.texts.proofs.Fields.{field_all}
use Rattle.grammar.proofs.Bounds.{inside_number}
use Rattle.texts.specs.Numbers.{in_field, held_as}

-- also a number that the district does not have, which holds 0
pub record Holds (f : Field) : Type 0 where
  pub held : (v : ℤ) → in_field f v ≡ true → inside f (held_as v) ≡ true
  pub none : ltb 0 f.width ≡ false → inside f 0 ≡ true

-- a range that does not run past the largest number holds no negative one
straight : (w lo hi : ℕ) (v : ℤ) → (le_z (pos lo) v && le_z v (pos hi)) ≡ true → inside (number w lo hi) (held_as v) ≡ true
straight w lo hi (pos n) e = let both = and_parts (leb lo n) (leb n hi) e in inside_number w lo hi n (leb-true lo n both.0) (leb-true n hi both.1)
straight w lo hi (negsuc n) e = absurd cc

-- one that begins below the negative bytes holds none
low : (w lo hi : ℕ) → lo < 128 → (v : ℤ) → in_field (number w lo hi) v ≡ true → inside (number w lo hi) (held_as v) ≡ true
low w lo hi h v e = go (ltb hi lo) refl
  where
    go : (t : Bool) → ltb hi lo ≡ t → inside (number w lo hi) (held_as v) ≡ true
    go false q = straight w lo hi v (rw q at e)
    go true q = let l = ltb-true hi lo q in straight w lo hi v (rw (q, lt-ltb lo 128 h, lt-ltb hi 128 (omega arith)) at e)

holds_number : (w lo hi : ℕ) → 0 < w → lo < 128 → Holds (number w lo hi)
holds_number w lo hi some h = record { held = low w lo hi h; none = λ e. absurd (let k = ltb-false 0 w e in omega arith) }

holds_absent : Holds absent
unfolding ranged
holds_absent = record { held = low 0 0 0 (omega arith); none = λ e. refl }

holds_gain : Holds (number 1 206 50)
unfolding ranged
holds_gain = record { held = each; none = λ e. absurd cc }
  where
    each : (v : ℤ) → in_field (number 1 206 50) v ≡ true → inside (number 1 206 50) (held_as v) ≡ true
    each (pos n) e = rw e refl
    each (negsuc n) e =
        let l = leb-true n 49 (and_parts (leb n 49) true e).0 in
        rw (lt-leb (255 - n) 50 (omega arith), le-leb 206 (255 - n) (omega arith), le-leb (255 - n) 255 (omega arith)) refl

pub field_holds : (d : District) (s : Slot) (n : ℕ) → Holds (field_at d s n)
field_holds d = field_all Holds (λ w lo hi h l e. holds_number w lo hi h l) holds_gain holds_absent d (holds_number 1 1 (pavements_of d) (omega arith) (omega arith))
