-- A district that is written by names is the one that its file loads as: what is computed of such districts holds of files.
use Rattle.std.specs.Prelude.{ℕ, ◌≡◌, refl, List, [], ◌∷◌, pos}
use Rattle.rules.specs.Calls.{district_in}
use Rattle.rules.specs.Writer.{Roads, minus, segment, barring, file_with_leaders, district_with_leaders}
use Rattle.rules.specs.Results.{result_of}

-- two of everything, and no number twice in a row; with the limit of resource 2, what is barred on either segment, and rating 2 of segment 1
abbrev pub two_with : ℕ → List ℕ → List ℕ → ℕ → Roads
two_with limit first second rating =
    record {
      years = 2;
      limits = 70_000 ∷ limit ∷ [];
      greatest = 20 ∷ 30 ∷ [];
      strategies =
          record { requirements = 300 ∷ 70_001 ∷ []; gains = pos 5 ∷ minus 6 ∷ []; percents = (90 ∷ 80 ∷ []) ∷ (70 ∷ 60 ∷ []) ∷ [] }
          ∷ record { requirements = 301 ∷ 2 ∷ []; gains = minus 50 ∷ pos 50 ∷ []; percents = (10 ∷ 20 ∷ []) ∷ (30 ∷ 40 ∷ []) ∷ [] }
          ∷ [];
      pavements =
          record { overall = 450; minima = (1 ∷ 2 ∷ []) ∷ (3 ∷ 4 ∷ []) ∷ [] }
          ∷ record { overall = 5; minima = (6 ∷ 7 ∷ []) ∷ (8 ∷ 9 ∷ []) ∷ [] }
          ∷ [];
      segments =
          record { pavement = 2; traffic = 101; environment = 1_000; length = 9_999; width = 200; barred = first; ratings = 11 ∷ rating ∷ [] }
          ∷ barring second (segment 258 13 (14 ∷ 15 ∷ []))
          ∷ [];
    }

abbrev pub two_of_each : Roads
two_of_each = two_with 999 (2 ∷ []) [] 12

pub read : district_in (file_with_leaders two_of_each (0 ∷ 1 ∷ [])) ≡ district_with_leaders two_of_each (0 ∷ 1 ∷ [])
unfolding result_of
read = refl
