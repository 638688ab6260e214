-- What request 7 of document 02 lets an office rely on: limits that leave room for all best candidates at once make total and ceiling equal, and
-- where the two are equal there is no better programme.
use Rattle.std.specs.Prelude.{ℕ, ◌≡◌, Bool, true, false, List, ◌≤ℤ◌}
use Rattle.std.specs.Int.Signed.{lt_z}
use Rattle.base.specs.Over.{best}
use Rattle.rules.specs.District.{District, strategies_of}
use Rattle.rules.specs.Rating.{benefit, candidate, within_limits, total_of}
use Rattle.rules.specs.Blocks.{followed}
use Rattle.rules.specs.Calls.{show_of}
use Rattle.rules.specs.Lists.{Call, district_after, choice_after, unit_after}
use Rattle.rules.specs.Demands.{Feasible, leaders_respected, strategy_in}
use Rattle.rules.specs.declared.Programme.{Programme}

-- on segment i strategy a has a greater benefit than b
unfoldable pub more_benefit : District → ℕ → ℕ → ℕ → Bool
more_benefit d i a b = lt_z (benefit d i b) (benefit d i a)

-- the best candidate of segment i: the one of greatest benefit, of equals the lower strategy; 0, which is nothing, where it has none
unfoldable pub best_candidate : District → ℕ → ℕ
best_candidate d i = best (strategies_of d) (candidate d i) (more_benefit d i)

-- of a district and the programme shown for it: where the programme of all best candidates is within the limits and respects leaders, as request
-- 8 has it, the total is the ceiling
pub record AtCeiling (d : District) (p : Programme) : Type 0 where
  pub equal : leaders_respected d (best_candidate d) ≡ true → within_limits d (best_candidate d) ≡ true → p.total ≡ p.ceiling

-- where the total is the ceiling, no programme of permitted strategies within the limits has a greater total
pub record Optimal (d : District) (p : Programme) : Type 0 where
  pub none_greater : p.total ≡ p.ceiling → (c : ℕ → ℕ) → Feasible d c → total_of d c ≤ℤ total_of d (strategy_in p)

-- after any list of calls; the first of an ordinary plan alone, as request 13 has it
abbrev pub GoodBudget : Type 0
GoodBudget = (cs : List Call) → followed (choice_after cs) (district_after cs) ≡ false → AtCeiling (district_after cs) (show_of (unit_after cs))

abbrev pub NoneGreater : Type 0
NoneGreater = (cs : List Call) → Optimal (district_after cs) (show_of (unit_after cs))
