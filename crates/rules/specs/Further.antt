-- Further districts, worked out by an independent program (reference/) and computed from these rules.
-- Two of the plausible mistakes pass M1 to M9: the effect divided term by term (each effect there has one term or divides evenly), and the
-- smallest benefit dropped instead of the smallest ratio. And the marked cases have no pick-up, no change, no requirement that a strategy
-- misses, no second distress type and no second limit that does not hold. These districts have them. Five tell apart readings that
-- come to the same everywhere else: how a ratio is rounded, what a surplus is taken from, and of which resources, how single changes are
-- ordered, when a price stays.
-- Those of gains that are cut at 0, of parts of a point, of a unit and of an index, and of a limit used to the last were worked by hand.
use Rattle.std.specs.Prelude.{refl, List, [], ◌∷◌, pos}
use Rattle.rules.specs.District.{District, with_rating}
use Rattle.rules.specs.Calls.{district_in}
use Rattle.rules.specs.Writer.{Roads, minus, strategy, nothing_demanded, segment, barring, district_of}
use Rattle.rules.specs.Results.{Shown, InitialRating, Ratings, Effect, given, planned, shows, result_of, WorkedCase, ◌⇒◌, Agree}
use Rattle.rules.specs.Marked.{card, one_segment}

-- steps, a pick-up and changes, with a strategy barred
abbrev pub four_segments : Roads
four_segments =
    record {
      years = 1;
      limits = 746 ∷ [];
      greatest = 20 ∷ [];
      strategies =
          strategy (564 ∷ []) (pos 12) 54
          ∷ strategy (905 ∷ []) (pos 20) 98
          ∷ [];
      pavements = record { overall = 1; minima = [] } ∷ [];
      segments =
          record { pavement = 1; traffic = 100; environment = 125; length = 490; width = 42; barred = []; ratings = 1 ∷ [] }
          ∷ record { pavement = 1; traffic = 129; environment = 129; length = 613; width = 5; barred = []; ratings = 19 ∷ [] }
          ∷ record { pavement = 1; traffic = 288; environment = 105; length = 4543; width = 167; barred = 2 ∷ []; ratings = 10 ∷ [] }
          ∷ record { pavement = 1; traffic = 100; environment = 111; length = 1437; width = 73; barred = []; ratings = [] }
          ∷ [];
    }

-- with equal benefits and ratios
abbrev pub tied_segments : Roads
tied_segments =
    record {
      years = 1;
      limits = 148 ∷ 251 ∷ [];
      greatest = 50 ∷ [];
      strategies =
          strategy (3000 ∷ 2000 ∷ []) (pos 2) 60
          ∷ strategy (1000 ∷ 1000 ∷ []) (pos 2) 60
          ∷ strategy (2000 ∷ 3000 ∷ []) (pos 10) 50
          ∷ [];
      pavements = nothing_demanded ∷ [];
      segments =
          segment 100 20 (25 ∷ [])
          ∷ segment 200 20 (25 ∷ [])
          ∷ segment 100 20 (25 ∷ [])
          ∷ segment 200 20 (25 ∷ [])
          ∷ [];
    }

-- with two limits that the best candidates exceed
abbrev pub two_limits : Roads
two_limits =
    record {
      years = 1;
      limits = 120 ∷ 78 ∷ [];
      greatest = 20 ∷ [];
      strategies = strategy (1123 ∷ 638 ∷ []) (pos 4) 40 ∷ [];
      pavements = nothing_demanded ∷ [];
      segments =
          segment 300 20 (1 ∷ [])
          ∷ segment 100 20 (1 ∷ [])
          ∷ segment 300 30 (10 ∷ [])
          ∷ [];
    }

-- minimum ratings that some segments miss, in some year, for some distress type
abbrev pub minima : Roads
minima =
    record {
      years = 2;
      limits = 275 ∷ 184 ∷ [];
      greatest = 30 ∷ 20 ∷ [];
      strategies =
          record { requirements = 2000 ∷ 1500 ∷ []; gains = pos 20 ∷ pos 5 ∷ []; percents = (88 ∷ 50 ∷ []) ∷ (90 ∷ 90 ∷ []) ∷ [] }
          ∷ [];
      pavements = record { overall = 7; minima = (0 ∷ 13 ∷ []) ∷ (0 ∷ 5 ∷ []) ∷ [] } ∷ [];
      segments =
          record { pavement = 1; traffic = 196; environment = 100; length = 300; width = 30; barred = []; ratings = 6 ∷ 7 ∷ [] }
          ∷ record { pavement = 1; traffic = 100; environment = 130; length = 482; width = 10; barred = []; ratings = 11 ∷ 4 ∷ [] }
          ∷ segment 391 30 (5 ∷ 20 ∷ [])
          ∷ segment 257 30 (13 ∷ 16 ∷ [])
          ∷ [];
    }

-- overall requirements of two pavement types
abbrev pub overall : Roads
overall =
    record {
      years = 2;
      limits = 610 ∷ 590 ∷ [];
      greatest = 20 ∷ [];
      strategies =
          record { requirements = 0 ∷ 500 ∷ []; gains = pos 20 ∷ []; percents = (100 ∷ 50 ∷ []) ∷ [] }
          ∷ record { requirements = 1500 ∷ 2000 ∷ []; gains = pos 15 ∷ []; percents = (0 ∷ 100 ∷ []) ∷ [] }
          ∷ [];
      pavements =
          record { overall = 25; minima = [] }
          ∷ record { overall = 12; minima = (0 ∷ 6 ∷ []) ∷ [] }
          ∷ [];
      segments =
          record { pavement = 1; traffic = 100; environment = 138; length = 300; width = 20; barred = []; ratings = 18 ∷ [] }
          ∷ record { pavement = 2; traffic = 100; environment = 100; length = 100; width = 20; barred = []; ratings = 1 ∷ [] }
          ∷ [];
    }

-- a rating that reaches its minimum exactly
abbrev pub exact_minimum : Roads
exact_minimum =
    record {
      years = 2;
      limits = 105 ∷ [];
      greatest = 30 ∷ 30 ∷ [];
      strategies =
          record { requirements = 1000 ∷ []; gains = pos 20 ∷ pos 5 ∷ []; percents = (100 ∷ 90 ∷ []) ∷ (100 ∷ 100 ∷ []) ∷ [] }
          ∷ record { requirements = 1500 ∷ []; gains = minus 7 ∷ pos 15 ∷ []; percents = (100 ∷ 90 ∷ []) ∷ (100 ∷ 100 ∷ []) ∷ [] }
          ∷ [];
      pavements = record { overall = 0; minima = (0 ∷ 4 ∷ []) ∷ (19 ∷ 0 ∷ []) ∷ [] } ∷ [];
      segments =
          record { pavement = 1; traffic = 100; environment = 115; length = 200; width = 30; barred = []; ratings = 5 ∷ 18 ∷ [] }
          ∷ record { pavement = 1; traffic = 100; environment = 138; length = 200; width = 30; barred = []; ratings = 1 ∷ 9 ∷ [] }
          ∷ segment 300 30 (16 ∷ 14 ∷ [])
          ∷ [];
    }

-- ratings are summed to the part of a point: 5.5 and 5.5 reach 11, and do not reach 12
abbrev pub half_points : Roads
half_points =
    record {
      years = 1;
      limits = 0 ∷ [];
      greatest = 20 ∷ 20 ∷ [];
      strategies = record { requirements = []; gains = pos 1 ∷ pos 1 ∷ []; percents = (50 ∷ []) ∷ (50 ∷ []) ∷ [] } ∷ [];
      pavements =
          record { overall = 11; minima = [] }
          ∷ record { overall = 12; minima = [] }
          ∷ [];
      segments =
          segment 100 20 (5 ∷ 5 ∷ [])
          ∷ record { pavement = 2; traffic = 100; environment = 100; length = 100; width = 20; barred = []; ratings = 5 ∷ 5 ∷ [] }
          ∷ [];
    }

-- a use of just one unit fits a limit of one, and a hundred-thousandth more does not
abbrev pub just_beyond : Roads
just_beyond =
    record {
      years = 1;
      limits = 1 ∷ [];
      greatest = 50 ∷ [];
      strategies =
          strategy (100_001 ∷ []) (pos 50) 100
          ∷ strategy (100_000 ∷ []) (pos 10) 100
          ∷ [];
      pavements = nothing_demanded ∷ [];
      segments = segment 1 1 [] ∷ [];
    }

-- two pick-ups
abbrev pub twice_picked : Roads
twice_picked =
    record {
      years = 1;
      limits = 60 ∷ [];
      greatest = 50 ∷ [];
      strategies = strategy (1000 ∷ []) (pos 35) 100 ∷ [];
      pavements = nothing_demanded ∷ [];
      segments =
          segment 200 20 []
          ∷ segment 100 10 (3 ∷ [])
          ∷ segment 200 20 []
          ∷ segment 100 10 []
          ∷ [];
    }

-- ratios of 3.6 and 3, rounded down: a tie
abbrev pub rounded_ratios : Roads
rounded_ratios =
    record {
      years = 1;
      limits = 1 ∷ [];
      greatest = 50 ∷ [];
      strategies =
          strategy (60000 ∷ []) (pos 1) 30
          ∷ strategy (70000 ∷ []) (pos 1) 26
          ∷ [];
      pavements = nothing_demanded ∷ [];
      segments =
          barring (2 ∷ []) (segment 1 1 [])
          ∷ barring (1 ∷ []) (segment 1 1 [])
          ∷ [];
    }

-- a surplus of shares that are rounded up one by one: that of the exact use leads to another programme
abbrev pub rounded_shares : Roads
rounded_shares =
    record {
      years = 1;
      limits = 6 ∷ [];
      greatest = 50 ∷ [];
      strategies = strategy (73000 ∷ []) (pos 18) 100 ∷ [];
      pavements = nothing_demanded ∷ [];
      segments =
          segment 3 1 []
          ∷ segment 7 1 []
          ∷ segment 2 1 []
          ∷ [];
    }

-- a limit that is used to the last and holds: its shares, rounded up, are more than the whole, and yet none of them pulls; if they did, segment 3
-- would step first, and be picked up again
abbrev pub used_up : Roads
used_up =
    record {
      years = 1;
      limits = 10 ∷ 3 ∷ [];
      greatest = 50 ∷ [];
      strategies =
          strategy (6000 ∷ 0 ∷ []) (pos 50) 100
          ∷ strategy (0 ∷ 100_000 ∷ []) (pos 1) 100
          ∷ [];
      pavements = nothing_demanded ∷ [];
      segments =
          barring (2 ∷ []) (segment 100 1 [])
          ∷ barring (2 ∷ []) (segment 100 1 [])
          ∷ barring (1 ∷ []) (segment 1 1 [])
          ∷ barring (1 ∷ []) (segment 2 1 [])
          ∷ [];
    }

-- single changes by segment, and only then by strategy: the other order leads to another programme
abbrev pub single_changes : Roads
single_changes =
    record {
      years = 1;
      limits = 5 ∷ [];
      greatest = 50 ∷ [];
      strategies =
          strategy (40000 ∷ []) (pos 13) 100
          ∷ strategy (100000 ∷ []) (pos 27) 100
          ∷ strategy (70000 ∷ []) (pos 19) 100
          ∷ [];
      pavements = nothing_demanded ∷ [];
      segments =
          barring (2 ∷ []) (segment 9 1 [])
          ∷ segment 5 1 []
          ∷ segment 3 1 []
          ∷ [];
    }

-- a price stays where a lower one gives an equal ceiling
abbrev pub equal_ceilings : Roads
equal_ceilings =
    record {
      years = 1;
      limits = 9 ∷ 6 ∷ [];
      greatest = 50 ∷ [];
      strategies =
          strategy (0 ∷ 200000 ∷ []) (pos 20) 100
          ∷ strategy (100000 ∷ 50000 ∷ []) (pos 30) 100
          ∷ [];
      pavements = nothing_demanded ∷ [];
      segments =
          segment 9 1 []
          ∷ segment 2 1 []
          ∷ [];
    }

-- a loss that is less in each year, at rating 2
abbrev pub fog_seal : District
fog_seal = with_rating (district_of (one_segment 100 (minus 6) (90 ∷ 50 ∷ 0 ∷ []))) 1 1 2

-- one gain cut at the greatest rating, 9 to 5, and one at 0, −6 to −2; without the second cut the strategy does harm, and nothing is taken
abbrev pub both_cuts : Roads
both_cuts =
    record {
      years = 1;
      limits = 1000 ∷ [];
      greatest = 20 ∷ 20 ∷ [];
      strategies = record { requirements = 1000 ∷ []; gains = pos 9 ∷ minus 6 ∷ []; percents = (100 ∷ []) ∷ (90 ∷ []) ∷ [] } ∷ [];
      pavements = nothing_demanded ∷ [];
      segments = segment 100 20 (15 ∷ 2 ∷ []) ∷ [];
    }

-- Strategy 2 is the better one for segment 1, and the one that meets the overall requirement of segment 2, only because of the cut at 0:
-- without it segment 1 gets strategy 1 and segment 2 nothing, for a total of 800,000.
abbrev pub cut_decides : Roads
cut_decides =
    record {
      years = 1;
      limits = 1000 ∷ [];
      greatest = 20 ∷ 20 ∷ [];
      strategies =
          record { requirements = 1000 ∷ []; gains = pos 4 ∷ []; percents = (100 ∷ []) ∷ (100 ∷ []) ∷ [] }
          ∷ record { requirements = 1000 ∷ []; gains = pos 9 ∷ minus 6 ∷ []; percents = (100 ∷ []) ∷ (90 ∷ []) ∷ [] }
          ∷ [];
      pavements =
          nothing_demanded
          ∷ record { overall = 17; minima = [] }
          ∷ [];
      segments =
          segment 100 20 (8 ∷ 2 ∷ [])
          ∷ record { pavement = 2; traffic = 100; environment = 100; length = 100; width = 20; barred = []; ratings = 8 ∷ 2 ∷ [] }
          ∷ [];
    }

-- Strategy 1 is the better one by both ends of the years, strategy 2 by the later ones alone. In year 2 strategy 1 misses the minimum of
-- segment 2, and in year 1 strategy 2 misses the overall requirement of segment 3; the means of those years would reach both.
abbrev pub ends_decide : Roads
ends_decide =
    record {
      years = 2;
      limits = 1000 ∷ [];
      greatest = 20 ∷ [];
      strategies =
          record { requirements = 1000 ∷ []; gains = pos 10 ∷ []; percents = (100 ∷ 0 ∷ []) ∷ [] }
          ∷ record { requirements = 1000 ∷ []; gains = pos 10 ∷ []; percents = (60 ∷ 60 ∷ []) ∷ [] }
          ∷ [];
      pavements =
          nothing_demanded
          ∷ record { overall = 0; minima = (0 ∷ 6 ∷ []) ∷ [] }
          ∷ record { overall = 12; minima = [] }
          ∷ [];
      segments =
          segment 100 20 (5 ∷ [])
          ∷ record { pavement = 2; traffic = 100; environment = 100; length = 100; width = 20; barred = []; ratings = 5 ∷ [] }
          ∷ record { pavement = 3; traffic = 100; environment = 100; length = 100; width = 20; barred = 1 ∷ []; ratings = 5 ∷ [] }
          ∷ [];
    }

-- With either strategy the gain and the loss come to the same by both ends of the years, and nothing is taken; by the later ends alone
-- strategy 2 gains more, by the earlier ones strategy 1.
abbrev pub evened_out : Roads
evened_out =
    record {
      years = 2;
      limits = 1000 ∷ [];
      greatest = 20 ∷ 20 ∷ [];
      strategies =
          record { requirements = 1000 ∷ []; gains = pos 5 ∷ minus 5 ∷ []; percents = (50 ∷ 0 ∷ []) ∷ (0 ∷ 100 ∷ []) ∷ [] }
          ∷ record { requirements = 1000 ∷ []; gains = pos 5 ∷ minus 5 ∷ []; percents = (0 ∷ 100 ∷ []) ∷ (50 ∷ 0 ∷ []) ∷ [] }
          ∷ [];
      pavements = nothing_demanded ∷ [];
      segments = segment 100 20 (10 ∷ 10 ∷ []) ∷ [];
    }

-- in one year 99 percent of the one gain is left, and 69 percent of the other
abbrev pub odd_types : Roads
odd_types =
    record {
      years = 1;
      limits = 0 ∷ [];
      greatest = 20 ∷ 20 ∷ [];
      strategies = record { requirements = []; gains = pos 1 ∷ pos 1 ∷ []; percents = (99 ∷ []) ∷ (69 ∷ []) ∷ [] } ∷ [];
      pavements = nothing_demanded ∷ [];
      segments =
          record { pavement = 1; traffic = 125; environment = 125; length = 100; width = 20; barred = []; ratings = 5 ∷ 5 ∷ [] }
          ∷ [];
    }

abbrev pub further_cases : List WorkedCase
further_cases =
    -- M9 with a second year
    given Effect (district_of (one_segment 101 (pos 1) (90 ∷ 90 ∷ []))) ⇒ (pos 184 ∷ [])
    -- rating 5 and gain 15 in year 0, whatever the indexes and percents
    ∷ given InitialRating (district_of (one_segment 1_000 (pos 15) (0 ∷ []))) ⇒ (pos 20_000_000 ∷ [])
    -- indexes of 1.07 and 1.07 lose half of 1.1449, not of a product of two decimals
    ∷ given Ratings (district_of (one_segment 107 (pos 15) (50 ∷ []))) ⇒ (pos 11_413_250 ∷ [])
    -- segment 2 has the greater benefit and the smaller ratio
    ∷ given Shown (with_rating (district_in card) 2 1 9) ⇒ shows (2 ∷ 1 ∷ []) 8_250_000 8_250_000 10_014_076 1 0 0
    ∷ planned four_segments ⇒ shows (1 ∷ 2 ∷ 0 ∷ 1 ∷ []) 111_572_863 38_908_450 127_252_761 3 1 2
    ∷ planned tied_segments ⇒ shows (3 ∷ 0 ∷ 2 ∷ 3 ∷ []) 4_820_000 3_960_000 5_551_230 8 1 2
    ∷ planned two_limits ⇒ shows (1 ∷ 1 ∷ 0 ∷ []) 2_240_000 2_240_000 2_993_508 2 1 0
    ∷ planned minima ⇒ shows (0 ∷ 0 ∷ 1 ∷ 0 ∷ []) 38_239_800 18_258_160 49_138_864 2 0 1
    ∷ planned overall ⇒ shows (0 ∷ 1 ∷ []) 6_650_000 6_650_000 6_650_000 0 0 0
    ∷ planned exact_minimum ⇒ shows (0 ∷ 0 ∷ 1 ∷ []) 33_570_000 29_310_000 46_098_262 1 0 1
    ∷ planned half_points ⇒ shows (1 ∷ 0 ∷ []) 300_000 300_000 300_000 0 0 0
    ∷ planned just_beyond ⇒ shows (2 ∷ []) 1_000 1_000 1_000 0 0 0
    ∷ planned twice_picked ⇒ shows (0 ∷ 1 ∷ 1 ∷ 1 ∷ []) 21_000_000 21_000_000 21_005_600 3 2 0
    ∷ planned rounded_ratios ⇒ shows (1 ∷ 0 ∷ []) 65 63 128 1 0 1
    ∷ planned rounded_shares ⇒ shows (1 ∷ 0 ∷ 1 ∷ []) 9_000 9_000 17_001 2 1 0
    ∷ planned used_up ⇒ shows (0 ∷ 1 ∷ 2 ∷ 2 ∷ []) 500_300 500_300 834_300 1 0 0
    ∷ planned single_changes ⇒ shows (1 ∷ 0 ∷ 1 ∷ []) 15_600 10_400 20_000 5 0 2
    ∷ planned equal_ceilings ⇒ shows (2 ∷ 0 ∷ []) 27_000 6_000 30_000 1 0 1
    -- document 02, request 1: rating 2 and gain −6. The whole rating is lost at first and no more, nine tenths of it in year 1, half in year 2 and
    -- nothing in year 3. Without the cut it comes to −4, and −3.4, −1 and 2.
    ∷ given InitialRating fog_seal ⇒ (pos 0 ∷ [])
    ∷ given Ratings fog_seal ⇒ (pos 200_000 ∷ pos 1_000_000 ∷ pos 2_000_000 ∷ [])
    ∷ given Effect fog_seal ⇒ (minus 380 ∷ [])
    ∷ planned both_cuts ⇒ shows (1 ∷ []) 620_000 620_000 620_000 0 0 0
    ∷ planned cut_decides ⇒ shows (2 ∷ 2 ∷ []) 2_840_000 2_840_000 2_840_000 0 0 0
    -- document 02, request 5: the years of M7 count 95, 80, 55 and 20 percent
    ∷ given Effect (district_of (one_segment 100 (pos 15) (90 ∷ 70 ∷ 40 ∷ 0 ∷ []))) ⇒ (pos 3_750 ∷ [])
    -- two years whose ends have an odd sum, in millionths: halved year by year it comes to 174
    ∷ given Effect (district_of (one_segment 125 (pos 1) (99 ∷ 70 ∷ []))) ⇒ (pos 175 ∷ [])
    -- two distress types whose sums are odd: halved type by type it comes to 174
    ∷ given Effect (district_of odd_types) ⇒ (pos 175 ∷ [])
    ∷ planned ends_decide ⇒ shows (1 ∷ 2 ∷ 0 ∷ []) 5_800_000 5_800_000 5_800_000 0 0 0
    ∷ planned evened_out ⇒ shows (0 ∷ []) 0 0 0 0 0 0
    ∷ []

pub further : Agree further_cases
unfolding result_of
further = refl
