-- Frames of some inputs, computed.
use Rattle.std.specs.Prelude.{ℕ, ◌≡◌, List, [], ◌∷◌}
use mathlib.Core.Path.{refl}
use Rattle.frames.specs.Frames.{frames_from, frames_in, printed}

-- frames of 2, 0 and 1 bytes, and one of 3 of which 2 are there
pub in_order : frames_in (2 ∷ 0 ∷ 0 ∷ 0 ∷ 97 ∷ 98 ∷ 0 ∷ 0 ∷ 0 ∷ 0 ∷ 1 ∷ 0 ∷ 0 ∷ 0 ∷ 99 ∷ 3 ∷ 0 ∷ 0 ∷ 0 ∷ 100 ∷ 101 ∷ []) ≡ (97 ∷ 98 ∷ []) ∷ [] ∷ (99 ∷ []) ∷ []
unfolding frames_from
in_order = refl

-- a length of which a byte is missing
pub cut_short : frames_in (0 ∷ 0 ∷ 0 ∷ []) ≡ []
unfolding frames_from
cut_short = refl

-- one of 65,537 bytes, with which the frames end
pub too_long : frames_in (0 ∷ 0 ∷ 0 ∷ 0 ∷ 1 ∷ 0 ∷ 1 ∷ 0 ∷ 7 ∷ 0 ∷ 0 ∷ 0 ∷ 0 ∷ []) ≡ [] ∷ []
unfolding frames_from
too_long = refl

-- and where its length alone is read
pub too_long_read : frames_in (0 ∷ 0 ∷ 0 ∷ 0 ∷ 1 ∷ 0 ∷ 1 ∷ 0 ∷ []) ≡ [] ∷ []
unfolding frames_from
too_long_read = refl

-- each behind a colon
pub behind_a_colon : printed (λ (frame : List ℕ). 58 ∷ frame) ((97 ∷ 98 ∷ []) ∷ [] ∷ (99 ∷ []) ∷ []) ≡ 58 ∷ 97 ∷ 98 ∷ 58 ∷ 58 ∷ 99 ∷ []
unfolding printed
behind_a_colon = refl
