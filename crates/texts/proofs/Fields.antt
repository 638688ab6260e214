-- What holds of the fields of every kind holds of each field of a district.
use Rattle.std.proofs.Common.{ℕ, zero, suc, ◌<◌, ◌≡◌, Bool, true, leb, arith}
use lib.Dec.{lit<}
use borrow.Author.Tests.{le-leb}
use Rattle.base.proofs.Choice.{pick_all}
use Rattle.base.specs.Choice.{pick}
use Rattle.rules.specs.District.{District, pavements_of}
use Rattle.rules.specs.Format.{number, absent, count_field, limit_field, greatest_field, strategy_field, pavement_field, segment_field, kind_field, field_at, Slot}
use Rattle.rules.specs.declared.Field.{Field}

-- a range that does not run past the largest number, a gain, and none; the range of a pavement type is that of those there are
module _ (P : Field → Type 0) (straight : (w lo hi : ℕ) → 0 < w → lo < 128 → leb lo hi ≡ true → P (number w lo hi)) (gain : P (number 1 206 50)) (none : P absent) (d : District) (type : P (number 1 1 (pavements_of d))) (s : Slot) (n : ℕ) where
  either : (t : Bool) (f g : Field) → P f → P g → P (pick t f g)
  either t f g h k = pick_all P t f g h k

  from_zero : (w hi : ℕ) → 0 < w → P (number w 0 hi)
  from_zero w hi h = straight w 0 hi h (omega arith) (le-leb 0 hi (omega arith))

  count_all : (k : ℕ) → P (count_field k)
  count_all zero = search (tt, lit<, from_zero, straight) depth 10
  count_all (suc zero) = search (tt, lit<, straight) depth 10
  count_all (suc (suc zero)) = search (tt, lit<, straight) depth 10
  count_all (suc (suc (suc zero))) = search (tt, lit<, straight) depth 10
  count_all (suc (suc (suc (suc zero)))) = search (tt, lit<, straight) depth 10
  count_all (suc (suc (suc (suc (suc zero))))) = search (tt, lit<, straight) depth 10
  count_all (suc (suc (suc (suc (suc (suc k)))))) = search (tt, lit<, from_zero, straight) depth 10

  limit_all : P (limit_field d n)
  limit_all = search (tt, lit<, either, from_zero, straight, none) depth 10

  greatest_all : P (greatest_field d n)
  greatest_all = search (tt, lit<, either, straight, none) depth 10

  strategy_all : P (strategy_field d n)
  strategy_all = search (tt, lit<, either, from_zero, straight, gain, none) depth 20

  pavement_all : P (pavement_field d n)
  pavement_all = search (tt, lit<, either, from_zero, straight, none) depth 20

  segment_all : P (segment_field d s n)
  segment_all = search (tt, lit<, either, from_zero, straight, none, type) depth 20

  kind_all : P (kind_field d s n)
  kind_all =
      either _ _ _ (count_all n) (either _ _ _ limit_all (either _ _ _ greatest_all (either _ _ _ strategy_all (either _ _ _ pavement_all (either _ _ _ segment_all none)))))

  pub field_all : P (field_at d s n)
  unfolding field_at
  field_all = either _ _ _ kind_all none
