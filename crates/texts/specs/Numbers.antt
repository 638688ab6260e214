-- docs/FILE.md, "The text", on numbers, and "The numbers": a number in a text, and what stands for it in a district.
use Rattle.std.specs.Prelude.{ℕ, suc, ◌-◌, Bool, true, false, ◌&&◌, List, [], ◌∷◌, ltb, eqb, length, ℤ, pos, negsuc, neg_ℤ, Option, None, Some}
use Rattle.std.specs.Int.Signed.{le_z}
use Rattle.base.specs.Bytes.{signed}
use Rattle.base.specs.Choice.{pick}
use Rattle.base.specs.Over.{between}
use Rattle.base.specs.Text.{value_from, decimal}
use Rattle.rules.specs.declared.Field.{Field}
use Rattle.texts.specs.Words.{Word}

-- ---- a word as a number: 1 to 20 digits, with or without a '-' in front

abbrev pub longest_number : ℕ
longest_number = 20

abbrev pub minus_sign : ℕ
minus_sign = 45

unfoldable pub has_minus : Word → Bool
has_minus [] = false
has_minus (b ∷ bs) = eqb b minus_sign

unfoldable pub behind_minus : Word → List ℕ
behind_minus [] = []
behind_minus (b ∷ bs) = pick (eqb b minus_sign) bs (b ∷ bs)

unfoldable pub size_of : List ℕ → Option ℕ
size_of digits = pick (between 1 longest_number (length digits)) (value_from 0 digits) None

abbrev pub with_sign : Bool → Option ℕ → Option ℤ
with_sign minus None = None
with_sign true (Some n) = Some (neg_ℤ (pos n))
with_sign false (Some n) = Some (pos n)

-- nothing where the word is no number
unfoldable pub value_of : Word → Option ℤ
value_of w = with_sign (has_minus w) (size_of (behind_minus w))

-- ---- in base ten, without zeros in front, with '-' where it is negative

unfoldable pub written : ℤ → List ℕ
written (pos n) = decimal n
written (negsuc n) = minus_sign ∷ decimal (suc n)

-- ---- a field of the file's grammar: its numbers and its range, as a text has them

-- what a district's number x of the field is: a signed byte may be negative
abbrev pub shown_in : Field → ℕ → ℤ
shown_in f x = pick (ltb f.hi f.lo) (signed x) (pos x)

abbrev pub least : Field → ℤ
least f = shown_in f f.lo

abbrev pub most : Field → ℤ
most f = shown_in f f.hi

abbrev pub in_field : Field → ℤ → Bool
in_field f v = le_z (least f) v && le_z v (most f)

-- the district's number of one that is in its range: a negative gain is 256 more
abbrev pub held_as : ℤ → ℕ
held_as (pos n) = n
held_as (negsuc n) = 255 - n
