-- Request 7 of document 02, computed: whether the best candidates fit the limits together and respect leaders, beside total and ceiling. The figures are an
-- independent program's (reference/); what fits was worked by hand.
use Rattle.std.specs.Prelude.{ℕ, ◌≡◌, refl, Bool, true, false, List, [], ◌∷◌, map, pos}
use Rattle.std.proofs.lemmas.Bool.{eqb-false}
use Rattle.rules.specs.District.{District, fresh_district, with_limit}
use Rattle.rules.specs.Rating.{within_limits, total_of}
use Rattle.rules.specs.Phases.{strategy_at}
use Rattle.rules.specs.Demands.{permitted_at, all_permitted, Feasible, leaders_respected}
use Rattle.rules.specs.Blocks.{choice_of, followed, programme_by}
use Rattle.rules.specs.Calls.{district_in}
use Rattle.rules.specs.Writer.{Roads, strategy, nothing_demanded, segment, barring, district_with_leaders, district_of}
use Rattle.rules.specs.Results.{planned, in_blocks, shows, result_of, ◌⇒◌, Agree}
use Rattle.rules.specs.Marked.{card}
use Rattle.rules.specs.Leaders.{at_start}
use Rattle.rules.specs.declared.Programme.{Programme}
use Rattle.theorems.specs.GoodBudget.{more_benefit, best_candidate, AtCeiling}

-- a limit for one of two segments: total and ceiling are equal, although the best candidates do not fit together
abbrev pub one_of_two : Roads
one_of_two =
    record {
      years = 1;
      limits = 4 ∷ [];
      greatest = 50 ∷ [];
      strategies = strategy (50000 ∷ []) (pos 50) 100 ∷ [];
      pavements = nothing_demanded ∷ [];
      segments = segment 8 1 [] ∷ segment 8 1 [] ∷ [];
    }

pub equal : Agree (planned one_of_two ⇒ shows (0 ∷ 1 ∷ []) 40_000 40_000 40_000 1 0 0 ∷ [])
unfolding result_of
equal = refl

abbrev pub best_fit : District → Bool
best_fit d = within_limits d (best_candidate d)

-- without a segment, and without a candidate, nothing has to fit; M3's limit is just enough, M4's is not
pub fitting :
    map best_fit
    (fresh_district
    ∷ with_limit (district_in card) 1 0
    ∷ with_limit (district_in card) 1 180
    ∷ with_limit (district_in card) 1 179
    ∷ district_of one_of_two
    ∷ [])
    ≡ true ∷ true ∷ true ∷ false ∷ false ∷ []
unfolding result_of more_benefit best_candidate
fitting = refl

-- so what is promised of M3 is that its two figures are equal, and no less
pub in_m3 : (p : Programme) → AtCeiling (with_limit (district_in card) 1 180) p → p.total ≡ p.ceiling
unfolding result_of more_benefit best_candidate leaders_respected
in_m3 p good = good.equal refl refl

-- a leader that has no candidate, with two behind it: the best candidates fit together, but do not respect leaders, and of the ceiling of 300,000
-- the total, which `Leaders` computes, is 100,000
abbrev pub led : District → List Bool
led d = within_limits d (best_candidate d) ∷ leaders_respected d (best_candidate d) ∷ []

pub leading :
    map led (district_with_leaders at_start (0 ∷ 1 ∷ 2 ∷ 0 ∷ []) ∷ district_with_leaders at_start (0 ∷ 0 ∷ 2 ∷ 3 ∷ []) ∷ [])
    ≡ (true ∷ false ∷ []) ∷ (true ∷ true ∷ []) ∷ []
unfolding result_of more_benefit best_candidate leaders_respected
leading = refl

-- so where all leaders have candidates the promise is the whole one
pub in_led : (p : Programme) → AtCeiling (district_with_leaders at_start (0 ∷ 0 ∷ 2 ∷ 3 ∷ [])) p → p.total ≡ p.ceiling
unfolding result_of more_benefit best_candidate leaders_respected
in_led p good = good.equal refl refl

-- strategies of equal benefit, of which the second uses less: the unit stops two changes short of the best programme
abbrev pub of_equals : Roads
of_equals =
    record {
      years = 1;
      limits = 10 ∷ [];
      greatest = 20 ∷ [];
      strategies = strategy (5000 ∷ []) (pos 5) 100 ∷ strategy (3500 ∷ []) (pos 5) 100 ∷ [];
      pavements = nothing_demanded ∷ [];
      segments = barring (2 ∷ []) (segment 6 10 (5 ∷ [])) ∷ segment 10 10 (5 ∷ []) ∷ segment 10 10 (5 ∷ []) ∷ [];
    }

pub below : Agree (planned of_equals ⇒ shows (0 ∷ 1 ∷ 1 ∷ []) 100_000 100_000 130_000 1 0 0 ∷ [])
unfolding result_of
below = refl

-- the lower of equals do not fit together; the higher ones do
pub lower : best_fit (district_of of_equals) ≡ false
unfolding result_of more_benefit best_candidate
lower = refl

abbrev pub higher : ℕ → ℕ
higher = strategy_at (1 ∷ 2 ∷ 2 ∷ [])

pub feasible : Feasible (district_of of_equals) higher
unfolding result_of permitted_at all_permitted
feasible = record { permitted = refl; within = refl }

pub greater : total_of (district_of of_equals) higher ≡ pos 130_000
unfolding result_of
greater = refl

-- Of a plan in blocks (request 13) the first promise is not made. Each of three segments has two strategies: one takes all of the segment's own
-- resource, and a better one half of both others. In a block for each, which has the segment's own resource alone, each gets the lesser one. From there
-- no change of two segments has room, although the better ones of all three fit together.
abbrev pub apart : Roads
apart =
    record {
      years = 1;
      limits = 2 ∷ 2 ∷ 2 ∷ [];
      greatest = 50 ∷ [];
      strategies =
          strategy (2000 ∷ 0 ∷ 0 ∷ []) (pos 10) 100
          ∷ strategy (0 ∷ 1000 ∷ 1000 ∷ []) (pos 11) 100
          ∷ strategy (0 ∷ 2000 ∷ 0 ∷ []) (pos 10) 100
          ∷ strategy (1000 ∷ 0 ∷ 1000 ∷ []) (pos 11) 100
          ∷ strategy (0 ∷ 0 ∷ 2000 ∷ []) (pos 10) 100
          ∷ strategy (1000 ∷ 1000 ∷ 0 ∷ []) (pos 11) 100
          ∷ [];
      pavements = nothing_demanded ∷ [];
      segments =
          barring (3 ∷ 4 ∷ 5 ∷ 6 ∷ []) (segment 100 1 [])
          ∷ barring (1 ∷ 2 ∷ 5 ∷ 6 ∷ []) (segment 100 1 [])
          ∷ barring (1 ∷ 2 ∷ 3 ∷ 4 ∷ []) (segment 100 1 [])
          ∷ [];
    }

-- of each block its segment and its parts
abbrev pub one_each : List ℕ
one_each = 1 ∷ 1 ∷ 2 ∷ 0 ∷ 0 ∷ 2 ∷ 2 ∷ 0 ∷ 2 ∷ 0 ∷ 3 ∷ 3 ∷ 0 ∷ 0 ∷ 2 ∷ []

pub short :
    Agree
    (in_blocks one_each (district_of apart) ⇒ shows (1 ∷ 3 ∷ 5 ∷ []) 300_000 300_000 330_000 0 0 0
    ∷ planned apart ⇒ shows (2 ∷ 4 ∷ 6 ∷ []) 330_000 330_000 330_000 0 0 0
    ∷ [])
unfolding result_of
short = refl

-- so of the plan in blocks the promise would be false
pub short_followed : followed (choice_of one_each) (district_of apart) ≡ true
unfolding result_of
short_followed = refl

pub short_of_ceiling : ¬ (AtCeiling (district_of apart) (programme_by (choice_of one_each) (district_of apart)))
unfolding result_of more_benefit best_candidate leaders_respected
short_of_ceiling good = eqb-false 300_000 330_000 refl (good.equal refl refl)
