-- Reasons, computed from these rules: two districts whose answers take an order among the reasons and firsts among numbers. What each comes to is
-- an independent program's (reference/); crates/worked has two in which each but the sixth comes up, and the card's. All indexes are 100, so that a
-- percent is what survives; a segment has an area of 100, so that a requirement of 1,000 uses one unit.
use Rattle.std.specs.Prelude.{refl, List, [], ◌∷◌, pos}
use Rattle.rules.specs.Writer.{Roads, strategy, nothing_demanded, segment, district_of}
use Rattle.rules.specs.Results.{whys, in_row, result_of, WorkedCase, ◌⇒◌, Agree}

-- demands decide: both distress types miss a minimum, the first in two years and the second in an earlier one; one that is barred misses too;
-- one of no benefit misses the overall requirement
abbrev pub missing : Roads
missing =
    record {
      years = 3;
      limits = 10 ∷ [];
      greatest = 20 ∷ 20 ∷ [];
      strategies =
          record { requirements = 1000 ∷ []; gains = pos 8 ∷ pos 1 ∷ []; percents = (100 ∷ 40 ∷ 40 ∷ []) ∷ (100 ∷ 50 ∷ 50 ∷ []) ∷ [] }
          ∷ record { requirements = 1000 ∷ []; gains = []; percents = [] }
          ∷ [];
      pavements =
          record { overall = 28; minima = (12 ∷ 14 ∷ 14 ∷ []) ∷ (12 ∷ 11 ∷ 11 ∷ []) ∷ [] }
          ∷ record { overall = 26; minima = [] ∷ (9 ∷ 4 ∷ 4 ∷ []) ∷ [] }
          ∷ [];
      segments =
          record { pavement = 1; traffic = 100; environment = 100; length = 100; width = 1; barred = 2 ∷ []; ratings = 10 ∷ 10 ∷ [] }
          ∷ record { pavement = 2; traffic = 100; environment = 100; length = 100; width = 1; barred = []; ratings = 15 ∷ 10 ∷ [] }
          ∷ [];
    }

-- limits decide: both passed beside what the other segment has, one alone; and one strategy fits in the place of another
abbrev pub passing : Roads
passing =
    record {
      years = 1;
      limits = 10 ∷ 10 ∷ [];
      greatest = 50 ∷ [];
      strategies =
          strategy (5000 ∷ 4000 ∷ []) (pos 20) 100
          ∷ strategy (6000 ∷ 7000 ∷ []) (pos 24) 100
          ∷ strategy (0 ∷ 11000 ∷ []) (pos 40) 100
          ∷ strategy (4000 ∷ 4000 ∷ []) (pos 15) 100
          ∷ [];
      pavements = nothing_demanded ∷ [];
      segments = segment 100 1 [] ∷ segment 100 1 [] ∷ [];
    }

abbrev pub explanations : List WorkedCase
explanations =
    whys (district_of missing) ⇒ in_row ((3 ∷ 1 ∷ 2 ∷ []) ∷ (2 ∷ []) ∷ (1 ∷ []) ∷ (4 ∷ []) ∷ [])
    -- both segments have strategy 1
    ∷ whys (district_of passing)
    ⇒ in_row ((1 ∷ []) ∷ (8 ∷ 1 ∷ []) ∷ (7 ∷ 2 ∷ []) ∷ (9 ∷ []) ∷ (1 ∷ []) ∷ (8 ∷ 1 ∷ []) ∷ (7 ∷ 2 ∷ []) ∷ (9 ∷ []) ∷ [])
    ∷ []

pub explained : Agree explanations
unfolding result_of
explained = refl
