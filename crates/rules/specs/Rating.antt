-- Document 01, "Rating and benefit": of segment i, strategy j, distress k and year t of a district d. Gain, survival, rating, effect, area,
-- benefit, use, permitted and candidate are the document's terms.
use Rattle.std.specs.Prelude.{ℕ, zero, suc, ◌+◌, ◌-◌, ◌*◌, Bool, not, ◌&&◌, ◌||◌, leb, eqb, ℤ, pos, neg_ℤ, ◌+ℤ◌, ◌-ℤ◌, ◌*ℤ◌}
use Rattle.std.specs.Int.Signed.{le_z, lt_z, quot_z}
use Rattle.base.specs.Over.{sum, sum_z, all, min_z, max_z}
use Rattle.rules.specs.District.{District, segments_of, years_of, distresses_of, resources_of, limit_of, greatest_of, requirement_of, gain_of, percent_of, overall_of, minimum_of, pavement_of, traffic_of, environment_of, length_of, width_of, barred_in, rating_of}

-- A strategy cannot lift a rating above the greatest: its gain, cut to what is left up there.
unfoldable pub capped_gain : District → ℕ → ℕ → ℕ → ℤ
capped_gain d i j k = min_z (gain_of d j k) (pos (greatest_of d k) -ℤ pos (rating_of d i k))

-- Nor can it take one below 0 (document 02, request 1): no more than the current rating is lost.
unfoldable pub gain : District → ℕ → ℕ → ℕ → ℤ
gain d i j k = max_z (neg_ℤ (pos (rating_of d i k))) (capped_gain d i j k)

-- How much of the gain is left in year t, in millionths: all of it in year 0, and no less than none in any year (_-_ stops at 0).
unfoldable pub survival : District → ℕ → ℕ → ℕ → ℕ → ℕ
survival d i j k zero = 1_000_000
survival d i j k (suc t) = 1_000_000 - traffic_of d i * environment_of d i * (100 - percent_of d j k (suc t))

-- what the gain still adds in year t, in millionths
unfoldable pub improvement : District → ℕ → ℕ → ℕ → ℕ → ℤ
improvement d i j k t = gain d i j k *ℤ pos (survival d i j k t)

-- the rating at the end of year t, in millionths: the one that minimum and overall requirements look at
unfoldable pub rating : District → ℕ → ℕ → ℕ → ℕ → ℤ
rating d i j k t = pos (1_000_000 * rating_of d i k) +ℤ improvement d i j k t

-- Work is done during the year (document 02, request 5): what is left of the gain at the start and at the end of year t, together.
unfoldable pub both_ends : District → ℕ → ℕ → ℕ → ℕ → ℕ
both_ends d i j k t = survival d i j k (t - 1) + survival d i j k t

-- in millionths, twice the credit of year t, which is the gain times the mean of the two
unfoldable pub credit : District → ℕ → ℕ → ℕ → ℕ → ℤ
credit d i j k t = gain d i j k *ℤ pos (both_ends d i j k t)

-- over years 1 to T
unfoldable pub credits : District → ℕ → ℕ → ℕ → ℤ
credits d i j k = sum_z (years_of d) (credit d i j k)

-- Effect: summed over all distress types too, and only then divided, toward zero: by 10,000, and by 2 for the means.
unfoldable pub effect : District → ℕ → ℕ → ℤ
effect d i j = quot_z (sum_z (distresses_of d) (credits d i j)) (pos 20_000)

-- in hundredths of a mile-foot
unfoldable pub area : District → ℕ → ℕ
area d i = length_of d i * width_of d i

-- Benefit may be negative; that of nothing is 0.
unfoldable pub benefit : District → ℕ → ℕ → ℤ
benefit d i zero = pos 0
benefit d i (suc j) = pos (area d i) *ℤ effect d i (suc j)

-- Use of resource r, in hundred-thousandths of a unit; nothing uses 0. (`use` is a word of the language.)
unfoldable pub usage : District → ℕ → ℕ → ℕ → ℕ
usage d i zero r = 0
usage d i (suc j) r = area d i * requirement_of d (suc j) r

-- the limit in the same measure
unfoldable pub scaled_limit : District → ℕ → ℕ
scaled_limit d r = limit_of d r * 100_000

-- ---- permitted: not barred, every minimum rating reached, the overall requirement reached

-- a rating in millionths against a requirement in whole points; a requirement of 0 is always met
unfoldable pub reaches : ℤ → ℕ → Bool
reaches z required = eqb required 0 || le_z (pos (1_000_000 * required)) z

unfoldable pub minimum_reached : District → ℕ → ℕ → ℕ → ℕ → Bool
minimum_reached d i j k t = reaches (rating d i j k t) (minimum_of d (pavement_of d i) k t)

-- in each of the years 1 to T
unfoldable pub years_reached : District → ℕ → ℕ → ℕ → Bool
years_reached d i j k = all (years_of d) (minimum_reached d i j k)

-- for each distress type
unfoldable pub minima_reached : District → ℕ → ℕ → Bool
minima_reached d i j = all (distresses_of d) (years_reached d i j)

unfoldable pub first_rating : District → ℕ → ℕ → ℕ → ℤ
first_rating d i j k = rating d i j k 1

-- the ratings of year 1, summed, against the pavement type's overall requirement
unfoldable pub overall_reached : District → ℕ → ℕ → Bool
overall_reached d i j = reaches (sum_z (distresses_of d) (first_rating d i j)) (overall_of d (pavement_of d i))

unfoldable pub permitted : District → ℕ → ℕ → Bool
permitted d i j = not (barred_in d i j) && (minima_reached d i j && overall_reached d i j)

-- ---- candidate: permitted, of some benefit, and possible by itself

unfoldable pub fits_limit : District → ℕ → ℕ → ℕ → Bool
fits_limit d i j r = leb (usage d i j r) (scaled_limit d r)

unfoldable pub fits_alone : District → ℕ → ℕ → Bool
fits_alone d i j = all (resources_of d) (fits_limit d i j)

unfoldable pub candidate : District → ℕ → ℕ → Bool
candidate d i j = permitted d i j && (lt_z (pos 0) (benefit d i j) && fits_alone d i j)

-- ---- a programme c gives segment i the strategy c i

unfoldable pub usage_by : District → (ℕ → ℕ) → ℕ → ℕ → ℕ
usage_by d c r i = usage d i (c i) r

unfoldable pub within_limit : District → (ℕ → ℕ) → ℕ → Bool
within_limit d c r = leb (sum (segments_of d) (usage_by d c r)) (scaled_limit d r)

-- no resource is used beyond its limit
unfoldable pub within_limits : District → (ℕ → ℕ) → Bool
within_limits d c = all (resources_of d) (within_limit d c)

unfoldable pub benefit_by : District → (ℕ → ℕ) → ℕ → ℤ
benefit_by d c i = benefit d i (c i)

-- a programme's total
unfoldable pub total_of : District → (ℕ → ℕ) → ℤ
total_of d c = sum_z (segments_of d) (benefit_by d c)
