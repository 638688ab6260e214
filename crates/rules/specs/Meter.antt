-- Document 02, request 6: what is kept of the roughness meter's records, and the points for it. Readings are counted in whole 1024ths.
use Rattle.std.specs.Prelude.{ℕ, zero, suc, ◌+◌, ◌*◌, ◌/◌, ◌%◌, ◌^◌, Bool, not, ◌&&◌, ◌||◌, leb, ltb, eqb, length, take}
use mathlib.Core.List.{List, [], ◌∷◌, foldr}
use Rattle.base.specs.Choice.{pick}
use Rattle.rules.specs.Answers.{no_reading, window_empty, unless, accepting, Answered, answer_of}
use Rattle.rules.specs.declared.Roughness.{Roughness}
use Rattle.rules.specs.declared.Sent.{Sent}
use Rattle.rules.specs.declared.Sent.TheVariants.{Index, Marker, Lost}

-- ---- a reading, from the 32 bits of its float: sign, exponent and fraction

abbrev pub is_negative : ℕ → Bool
is_negative bits = leb (2 ^ 31) bits

abbrev pub exponent_of : ℕ → ℕ
exponent_of bits = bits / 2 ^ 23 % 256

abbrev pub fraction_of : ℕ → ℕ
fraction_of bits = bits % 2 ^ 23

-- the value without its sign, as a multiple of 2 ^ −150. Exponent 0 is for what is too small for a leading 1; with exponent 255, which
-- infinity and NaN have, it comes out above every reading
unfoldable pub magnitude_of : ℕ → ℕ
magnitude_of bits = pick (eqb (exponent_of bits) 0) (2 * fraction_of bits) ((2 ^ 23 + fraction_of bits) * 2 ^ exponent_of bits)

-- 1/1024 as a multiple of the same
abbrev pub part1024 : ℕ
part1024 = 2 ^ 140

-- a reading is so many whole 1024ths, below 8, and not negative; minus zero is zero
unfoldable pub is_reading : ℕ → Bool
is_reading bits =
    eqb (magnitude_of bits % part1024) 0 && (ltb (magnitude_of bits) (8 * 1024 * part1024) && (not (is_negative bits) || eqb (magnitude_of bits) 0))

-- how many
unfoldable pub reading_of : ℕ → ℕ
reading_of bits = magnitude_of bits / part1024

-- ---- the records, one after another

-- what was read after the latest marker, or from the start, newest first; and that marker's bits, 0 before any
pub record Heard : Type 0 where
  pub readings : List ℕ
  pub marker : ℕ

unfoldable pub nothing_heard : Heard
nothing_heard = record { readings = []; marker = 0 }

unfoldable pub sent_refusal : Sent → ℕ
sent_refusal (Index bits) = unless (is_reading bits) no_reading 0
sent_refusal (Marker bits) = 0
sent_refusal Lost = 0

-- with a record that is not refused
unfoldable pub heard_with : Heard → Sent → Heard
heard_with h (Index bits) = record { readings = reading_of bits ∷ h.readings; marker = h.marker }
heard_with h (Marker bits) = record { readings = []; marker = bits }
heard_with h Lost = h

-- a refused one leaves all as it was
unfoldable pub hearing : Heard → Sent → Heard
hearing h s = accepting (sent_refusal s) (heard_with h s) h

unfoldable pub heard_from : Heard → List Sent → Heard
heard_from h [] = h
heard_from h (s ∷ ss) = heard_from (hearing h s) ss

unfoldable pub heard_after : List Sent → Heard
heard_after ss = heard_from nothing_heard ss

-- ---- the window and its points

abbrev pub window_size : ℕ
window_size = 64

-- the last readings
abbrev pub window_of : Heard → List ℕ
window_of h = take window_size h.readings

unfoldable pub sum_of : List ℕ → ℕ
sum_of readings = foldr ◌+◌ 0 readings

-- the mean index is so many tenths or more
unfoldable pub mean_reaches : ℕ → List ℕ → Bool
mean_reaches tenths window = leb (tenths * 1024 * length window) (10 * sum_of window)

-- the Mays rows of Table 1
unfoldable pub mays_points : List ℕ → ℕ
mays_points window =
    pick (mean_reaches 47 window) 0
    (pick (mean_reaches 35 window) 5
    (pick (mean_reaches 33 window) 10
    (pick (mean_reaches 31 window) 20
    (pick (mean_reaches 29 window) 30
    (pick (mean_reaches 27 window) 40
    50)))))

unfoldable pub roughness_refusal : Heard → ℕ
roughness_refusal h = unless (leb 1 (length (window_of h))) window_empty 0

-- points, and the bits of the last marker
abbrev pub points_at : ℕ → ℕ → Roughness
points_at points marker = record { points = points; marker = marker }

-- both where nothing refuses them, else the refusal's number
unfoldable pub points_unless : ℕ → ℕ → ℕ → Answered Roughness
points_unless n points marker = answer_of n (points_at points marker)

unfoldable pub roughness_of : Heard → Answered Roughness
roughness_of h = points_unless (roughness_refusal h) (mays_points (window_of h)) h.marker
