-- What request 1 of document 02 is for: a rating stays on its scale, which goes from 0 to the greatest rating of its distress type.
use Rattle.std.specs.Prelude.{ℕ, ◌*◌, ◌≤◌, List, pos, ◌≤ℤ◌}
use Rattle.rules.specs.District.{District, segments_of, distresses_of, greatest_of}
use Rattle.rules.specs.Rating.{rating}
use Rattle.rules.specs.Lists.{Call, district_after}

-- of segment i, with strategy j, for distress k, in year t, year 0 too; in millionths
pub record OnScale (d : District) : Type 0 where
  pub least : (i j k t : ℕ) → pos 0 ≤ℤ rating d i j k t
  pub most :
      (i j k t : ℕ) → 1 ≤ i → i ≤ segments_of d → 1 ≤ k → k ≤ distresses_of d
      → rating d i j k t ≤ℤ pos (1_000_000 * greatest_of d k)

-- after any list of calls
abbrev pub RatingsOnScale : Type 0
RatingsOnScale = (cs : List Call) → OnScale (district_after cs)
