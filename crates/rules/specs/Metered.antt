-- Records of the meter, computed from these rules. Bits and points are worked out elsewhere, by a program without floats (reference/).
use Rattle.std.specs.Prelude.{ℕ, ◌≡◌, refl, List, [], ◌∷◌, ◌++◌, map, replicate}
use Rattle.rules.specs.Meter.{magnitude_of, is_reading, reading_of, nothing_heard, sent_refusal, heard_with, hearing, heard_from, heard_after, sum_of, mean_reaches, mays_points, roughness_refusal, points_unless, roughness_of}
use Rattle.rules.specs.Answers.{accepting, answer_of, Accepted, Refused, Answered}
use Rattle.rules.specs.declared.Sent.{Sent}
use Rattle.rules.specs.declared.Sent.TheVariants.{Index, Marker, Lost}
use Rattle.rules.specs.declared.Roughness.{Roughness}

-- ---- which bits are a reading

-- refusal, and how many 1024ths
abbrev read_as : ℕ → List ℕ
read_as bits = sent_refusal (Index bits) ∷ reading_of bits ∷ []

abbrev accepted : List ℕ
accepted =
    -- 0, minus zero, 1/1024, 1, the last below 2.7 and the last below 8
    0 ∷ 2147483648 ∷ 981467136 ∷ 1065353216 ∷ 1076674560 ∷ 1090516992 ∷ []

abbrev refused : List ℕ
refused =
    -- 8, a hair below 8, 1/2048, 1 and 1/2048, −1/1024, the least above 0, and its negative
    1090519040 ∷ 1090519039 ∷ 973078528 ∷ 1065357312 ∷ 3128950784 ∷ 1 ∷ 2147483649
    -- infinity, minus infinity, NaN with three payloads, the greatest number
    ∷ 2139095040 ∷ 4286578688 ∷ 2143289344 ∷ 2139095041 ∷ 4290847557 ∷ 2139095039
    ∷ []

pub readings_known :
    map read_as accepted
    ≡ (0 ∷ 0 ∷ []) ∷ (0 ∷ 0 ∷ []) ∷ (0 ∷ 1 ∷ []) ∷ (0 ∷ 1024 ∷ []) ∷ (0 ∷ 2764 ∷ []) ∷ (0 ∷ 8191 ∷ []) ∷ []
unfolding magnitude_of is_reading reading_of sent_refusal
readings_known = refl

pub others_refused : map (λ bits. sent_refusal (Index bits)) refused ≡ replicate 13 12
unfolding magnitude_of is_reading sent_refusal
others_refused = refl

-- ---- points

-- points and the marker's bits; 13 alone where there is no reading
abbrev told : Answered Roughness → List ℕ
told (Accepted r) = r.points ∷ r.marker ∷ []
told (Refused n) = n ∷ []

abbrev points_after : List Sent → List ℕ
points_after sent = told (roughness_of (heard_after sent))

abbrev indexes : List ℕ → List Sent
indexes bits = map (λ b. Index b) bits

-- one reading: the least at or above each threshold, then the one before it. Then five whose mean is the threshold, and five with one 1024th
-- less (3.5 is itself a reading)
abbrev levels : List (List Sent)
levels =
    indexes (1083598848 ∷ []) ∷ indexes (1083596800 ∷ [])
    ∷ indexes (1080033280 ∷ []) ∷ indexes (1080029184 ∷ [])
    ∷ indexes (1079197696 ∷ []) ∷ indexes (1079193600 ∷ [])
    ∷ indexes (1078358016 ∷ []) ∷ indexes (1078353920 ∷ [])
    ∷ indexes (1077518336 ∷ []) ∷ indexes (1077514240 ∷ [])
    ∷ indexes (1076678656 ∷ []) ∷ indexes (1076674560 ∷ [])
    -- 4,813 four times and 4,812: 4.7, and one 1024th less in the sum
    ∷ indexes (1083596800 ∷ replicate 4 1083598848) ∷ indexes (replicate 2 1083596800 ++ replicate 3 1083598848)
    -- 3,379 four times and 3,380: 3.3; 3,174 three times, 3,175 twice: 3.1; 2,969 twice, 2,970 three times: 2.9; 2,764 and 2,765 four times: 2.7
    ∷ indexes (1079197696 ∷ replicate 4 1079193600) ∷ indexes (replicate 5 1079193600)
    ∷ indexes (replicate 3 1078353920 ++ replicate 2 1078358016) ∷ indexes (replicate 4 1078353920 ++ 1078358016 ∷ [])
    ∷ indexes (replicate 2 1077514240 ++ replicate 3 1077518336) ∷ indexes (replicate 3 1077514240 ++ replicate 2 1077518336)
    ∷ indexes (1076674560 ∷ replicate 4 1076678656) ∷ indexes (replicate 2 1076674560 ++ replicate 3 1076678656)
    ∷ []

pub at_the_thresholds :
    map points_after levels
    ≡ map (λ p. p ∷ 0 ∷ []) (0 ∷ 5 ∷ 5 ∷ 10 ∷ 10 ∷ 20 ∷ 20 ∷ 30 ∷ 30 ∷ 40 ∷ 40 ∷ 50 ∷ 0 ∷ 5 ∷ 10 ∷ 20 ∷ 20 ∷ 30 ∷ 30 ∷ 40 ∷ 40 ∷ 50 ∷ [])
unfolding magnitude_of is_reading reading_of nothing_heard sent_refusal heard_with hearing heard_from heard_after accepting sum_of mean_reaches mays_points roughness_refusal points_unless roughness_of answer_of
at_the_thresholds = refl

-- ---- windows

abbrev full : List Sent
full = indexes (replicate 64 1083596800)

abbrev runs : List (List Sent)
runs =
    -- nothing yet; a lost sample and what is no reading alone; a marker alone
    [] ∷ (Lost ∷ Index 1090519040 ∷ []) ∷ (Marker 2143289345 ∷ [])
    -- 64 of 4,812 are below 4.7, and each of 4,813 behind them puts one out: 51 are too few, 52 are not
    ∷ full
    ∷ (full ++ indexes (replicate 51 1083598848))
    ∷ (full ++ indexes (replicate 52 1083598848))
    -- the greatest reading once, and 63 and 64 of 2,764 after it; with 63 it is still among the last 64 readings, though not among the last 64 records
    ∷ (Index 1090516992 ∷ indexes (replicate 63 1076674560))
    ∷ (Index 1090516992 ∷ indexes (replicate 64 1076674560))
    ∷ (Index 1090516992 ∷ (indexes (replicate 40 1076674560) ++ Lost ∷ Index 2143289344 ∷ indexes (replicate 23 1076674560)))
    -- a marker's bits stay until the next one, whatever they are; what is refused or lost leaves the window
    ∷ (Marker 4290847557 ∷ Index 1083598848 ∷ Lost ∷ Index 2143289344 ∷ [])
    ∷ (Marker 7 ∷ Index 1083598848 ∷ Marker 2147483648 ∷ Index 1076674560 ∷ [])
    ∷ []

pub window_slides :
    map points_after runs
    ≡ (13 ∷ []) ∷ (13 ∷ []) ∷ (13 ∷ [])
    ∷ (5 ∷ 0 ∷ []) ∷ (5 ∷ 0 ∷ []) ∷ (0 ∷ 0 ∷ [])
    ∷ (40 ∷ 0 ∷ []) ∷ (50 ∷ 0 ∷ []) ∷ (40 ∷ 0 ∷ [])
    ∷ (0 ∷ 4290847557 ∷ []) ∷ (50 ∷ 2147483648 ∷ [])
    ∷ []
unfolding magnitude_of is_reading reading_of nothing_heard sent_refusal heard_with hearing heard_from heard_after accepting sum_of mean_reaches mays_points roughness_refusal points_unless roughness_of answer_of
window_slides = refl
