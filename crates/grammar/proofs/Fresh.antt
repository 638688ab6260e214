-- The district of a fresh unit is in the file's ranges, computed.
use mathlib.Core.Path.{◌≡◌, refl}
use mathlib.Core.Bool.{true}
use Rattle.rules.specs.District.{greatest_of, fresh_district}
use Rattle.rules.specs.File.{numbers_in_range, records_in_range, in_range}
use Rattle.rules.specs.Format.{ranged, field_at}

pub fresh_in_range : in_range fresh_district ≡ true
unfolding greatest_of fresh_district ranged field_at numbers_in_range records_in_range in_range
fresh_in_range = refl
