-- Document 02, request 4, with the reason of request 8: why segment i has, or has not, strategy j, in a district d that holds the programme c.
use Rattle.std.specs.Prelude.{ℕ, Bool, not, ◌&&◌, List, [], ◌∷◌, ltb, eqb, pos}
use Rattle.std.specs.Prelude.{Option, None, Some}
use Rattle.std.specs.Int.Signed.{le_z}
use Rattle.base.specs.Choice.{pick, only}
use Rattle.base.specs.Search.{or_else, first}
use Rattle.rules.specs.District.{District, years_of, distresses_of, resources_of, barred_in, leader_of}
use Rattle.rules.specs.File.{in_range}
use Rattle.rules.specs.Rating.{benefit, scaled_limit, minimum_reached, overall_reached, fits_limit, total_of}
use Rattle.rules.specs.Table.{table_of}
use Rattle.rules.specs.Phases.{strategy_at, give, used, within, led}
use Rattle.rules.specs.declared.Reason.{Reason}
use Rattle.rules.specs.declared.Reason.TheVariants.{InProgramme, Barred, MinimumMissed, OverallMissed, NoBenefit, LeaderHasNothing, OverAlone, OverBeside, NoGreaterTotal}

-- a reason's number in the request's order, and what it names: distress and year, or the resource
abbrev pub told : Reason → List ℕ
told InProgramme = 1 ∷ []
told Barred = 2 ∷ []
told (MinimumMissed k t) = 3 ∷ k ∷ t ∷ []
told OverallMissed = 4 ∷ []
told NoBenefit = 5 ∷ []
told LeaderHasNothing = 6 ∷ []
told (OverAlone r) = 7 ∷ r ∷ []
told (OverBeside r) = 8 ∷ r ∷ []
told NoGreaterTotal = 9 ∷ []

-- the last, where no other is found
abbrev pub or_last : Option Reason → Reason
or_last (Some reason) = reason
or_last None = NoGreaterTotal

module _ (d : District) (c : List ℕ) (i j : ℕ) where
  -- the programme with strategy j on segment i, in place of what the segment has
  abbrev pub asked : List ℕ
  asked = give c i j

  -- what it means that a reason holds
  unfoldable pub holds : Reason → Bool
  holds InProgramme = eqb (strategy_at c i) j
  holds Barred = barred_in d i j
  holds (MinimumMissed k t) = not (minimum_reached d i j k t)
  holds OverallMissed = not (overall_reached d i j)
  holds NoBenefit = le_z (benefit d i j) (pos 0)
  holds LeaderHasNothing = not (led (leader_of d) (strategy_at c) i)
  holds (OverAlone r) = not (fits_limit d i j r)
  holds (OverBeside r) = ltb (scaled_limit d r) (used (table_of d) asked r)
  holds NoGreaterTotal = within (table_of d) asked && le_z (total_of d (strategy_at asked)) (total_of d (strategy_at c))

  abbrev pub given : Reason → Option Reason
  given reason = only (holds reason) reason

  -- the first of the reasons but the last that holds: of distress types, then of years, and of resources, the first
  unfoldable pub hindrance : Option Reason
  hindrance =
      or_else (given InProgramme)
      (or_else (given Barred)
      (or_else (first (distresses_of d) (λ k. first (years_of d) (λ t. given (MinimumMissed k t))))
      (or_else (given OverallMissed)
      (or_else (given NoBenefit)
      (or_else (given LeaderHasNothing)
      (or_else (first (resources_of d) (λ r. given (OverAlone r)))
      (first (resources_of d) (λ r. given (OverBeside r)))))))))

  -- a district out of the file's ranges, to which no list of calls leads, has no hindrance named
  unfoldable pub reason_for : Reason
  reason_for = or_last (pick (in_range d) hindrance None)
