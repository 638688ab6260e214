-- Reasons worked out by an independent program (reference/): two districts in which each but the sixth comes up, and the card's. All indexes of the
-- two are 100, so that a percent is what survives; a segment there has an area of 100, so that a requirement of 1,000 uses one unit.
use Rattle.std.specs.Prelude.{ℕ, ◌*◌, ◌≡◌, refl, List, [], ◌∷◌, ℤ, pos}
use Rattle.rules.specs.Lists.{Load, Alter, district_after, unit_after}
use Rattle.rules.specs.declared.Edit.TheVariants.{Bar, SetLimit}
use Rattle.rules.specs.Writer.{Strategy, Roads, minus, strategy, nothing_demanded, segment, district_of}
use Rattle.rules.specs.Results.{whys, in_row, why_in, result_of, WorkedCase, ◌⇒◌, Agree}
use Rattle.rules.specs.Marked.{card}

-- two distress types and two years: units of resource 2, gains, percents
abbrev lasting : ℕ → List ℤ → List (List ℕ) → Strategy
lasting units gains percents = record { requirements = 1000 ∷ 1000 * units ∷ []; gains = gains; percents = percents }

-- demands decide: minimum ratings missed for either distress type in either year, overall requirements, benefits of 0 and below
abbrev pub demanding : Roads
demanding =
    record {
      years = 2;
      limits = 10 ∷ 10 ∷ [];
      greatest = 20 ∷ 20 ∷ [];
      strategies =
          lasting 1 (pos 8 ∷ pos 8 ∷ []) ((100 ∷ 80 ∷ []) ∷ (100 ∷ 60 ∷ []) ∷ [])
          ∷ lasting 1 (pos 10 ∷ pos 10 ∷ []) ((100 ∷ 100 ∷ []) ∷ (100 ∷ 100 ∷ []) ∷ [])
          ∷ lasting 1 (pos 8 ∷ pos 1 ∷ []) ((100 ∷ 40 ∷ []) ∷ (100 ∷ 50 ∷ []) ∷ [])
          ∷ lasting 1 (pos 1 ∷ pos 6 ∷ []) ((100 ∷ 100 ∷ []) ∷ (100 ∷ 100 ∷ []) ∷ [])
          ∷ lasting 1 (pos 8 ∷ pos 1 ∷ []) ((100 ∷ 80 ∷ []) ∷ (100 ∷ 50 ∷ []) ∷ [])
          ∷ lasting 1 (pos 8 ∷ pos 4 ∷ []) ((100 ∷ 80 ∷ []) ∷ (50 ∷ 0 ∷ []) ∷ [])
          ∷ lasting 1 (pos 4 ∷ pos 2 ∷ []) ((100 ∷ 100 ∷ []) ∷ (100 ∷ 100 ∷ []) ∷ [])
          ∷ lasting 1 [] ((100 ∷ 100 ∷ []) ∷ (100 ∷ 100 ∷ []) ∷ [])
          ∷ lasting 1 (pos 5 ∷ minus 5 ∷ []) ((50 ∷ 0 ∷ []) ∷ (0 ∷ 100 ∷ []) ∷ [])
          ∷ lasting 11 (pos 6 ∷ minus 6 ∷ []) ((50 ∷ 0 ∷ []) ∷ (0 ∷ 100 ∷ []) ∷ [])
          ∷ lasting 1 (pos 6 ∷ minus 6 ∷ []) ((100 ∷ 0 ∷ []) ∷ (0 ∷ 100 ∷ []) ∷ [])
          ∷ [];
      pavements =
          record { overall = 28; minima = (12 ∷ 14 ∷ []) ∷ (12 ∷ 11 ∷ []) ∷ [] }
          ∷ record { overall = 26; minima = [] ∷ (9 ∷ 4 ∷ []) ∷ [] }
          ∷ [];
      segments =
          record { pavement = 1; traffic = 100; environment = 100; length = 100; width = 1; barred = 8 ∷ []; ratings = 10 ∷ 10 ∷ [] }
          ∷ record { pavement = 2; traffic = 100; environment = 100; length = 100; width = 1; barred = 2 ∷ []; ratings = 15 ∷ 10 ∷ [] }
          ∷ [];
    }

-- limits decide: each of three passed alone, or beside what the other segment has
abbrev pub limiting : Roads
limiting =
    record {
      years = 1;
      limits = 10 ∷ 10 ∷ 10 ∷ [];
      greatest = 50 ∷ [];
      strategies =
          strategy (5000 ∷ 4000 ∷ 3000 ∷ []) (pos 20) 100
          ∷ strategy (6000 ∷ 6000 ∷ 6000 ∷ []) (pos 24) 100
          ∷ strategy (11000 ∷ []) (pos 40) 100
          ∷ strategy (0 ∷ 11000 ∷ 12000 ∷ []) (pos 40) 100
          ∷ strategy (5000 ∷ 4000 ∷ 3000 ∷ []) (pos 20) 100
          ∷ strategy (10000 ∷ []) (pos 10) 100
          ∷ strategy (1000 ∷ 7000 ∷ 8000 ∷ []) (pos 35) 100
          ∷ strategy (4000 ∷ 4000 ∷ 3000 ∷ []) (pos 15) 100
          ∷ strategy (0 ∷ 0 ∷ 8000 ∷ []) (pos 25) 100
          ∷ strategy (0 ∷ 6001 ∷ []) (pos 12) 100
          ∷ [];
      pavements = nothing_demanded ∷ [];
      segments = segment 100 1 [] ∷ segment 100 1 [] ∷ [];
    }

abbrev pub explanations : List WorkedCase
explanations =
    whys (district_of demanding)
    ⇒ in_row
    ((9 ∷ []) ∷ (1 ∷ []) ∷ (3 ∷ 1 ∷ 2 ∷ []) ∷ (3 ∷ 1 ∷ 1 ∷ []) ∷ (3 ∷ 2 ∷ 1 ∷ []) ∷ (3 ∷ 2 ∷ 2 ∷ []) ∷ (4 ∷ []) ∷ (2 ∷ []) ∷ (3 ∷ 1 ∷ 2 ∷ []) ∷ (3 ∷ 1 ∷ 2 ∷ [])
    ∷ (3 ∷ 1 ∷ 2 ∷ [])
    ∷ (1 ∷ []) ∷ (2 ∷ []) ∷ (9 ∷ []) ∷ (9 ∷ []) ∷ (9 ∷ []) ∷ (9 ∷ []) ∷ (9 ∷ []) ∷ (4 ∷ []) ∷ (5 ∷ []) ∷ (5 ∷ []) ∷ (9 ∷ [])
    ∷ [])
    -- both segments have strategy 1
    ∷ whys (district_of limiting)
    ⇒ in_row
    ((1 ∷ []) ∷ (8 ∷ 1 ∷ []) ∷ (7 ∷ 1 ∷ []) ∷ (7 ∷ 2 ∷ []) ∷ (9 ∷ []) ∷ (8 ∷ 1 ∷ []) ∷ (8 ∷ 2 ∷ []) ∷ (9 ∷ []) ∷ (8 ∷ 3 ∷ []) ∷ (8 ∷ 2 ∷ [])
    ∷ (1 ∷ []) ∷ (8 ∷ 1 ∷ []) ∷ (7 ∷ 1 ∷ []) ∷ (7 ∷ 2 ∷ []) ∷ (9 ∷ []) ∷ (8 ∷ 1 ∷ []) ∷ (8 ∷ 2 ∷ []) ∷ (9 ∷ []) ∷ (8 ∷ 3 ∷ []) ∷ (8 ∷ 2 ∷ [])
    ∷ [])
    -- the card: segments of two sizes, and with limit 59 one that has nothing
    ∷ whys (district_after (Load card ∷ [])) ⇒ in_row ((9 ∷ []) ∷ (1 ∷ []) ∷ (1 ∷ []) ∷ (8 ∷ 1 ∷ []) ∷ [])
    ∷ whys (district_after (Load card ∷ Alter (SetLimit 1 59) ∷ [])) ⇒ in_row ((8 ∷ 1 ∷ []) ∷ (7 ∷ 1 ∷ []) ∷ (1 ∷ []) ∷ (7 ∷ 1 ∷ []) ∷ [])
    -- barred after the load
    ∷ whys (district_after (Load card ∷ Alter (Bar 1 1) ∷ [])) ⇒ in_row ((2 ∷ []) ∷ (1 ∷ []) ∷ (1 ∷ []) ∷ (8 ∷ 1 ∷ []) ∷ [])
    ∷ []

pub explained : Agree explanations
unfolding result_of
explained = refl

-- the call itself, answered
pub asked : why_in (unit_after (Load card ∷ [])) 2 2 ≡ 8 ∷ 1 ∷ []
unfolding result_of
asked = refl
