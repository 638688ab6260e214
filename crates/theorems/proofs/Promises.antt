-- What demand 3 and "The calls" promise of the programme of every district, however phase 1 went. Of the file's ranges it takes the most segments and, where leaders
-- matter, that a leader has a lower number.
use Prim.Native.Nat.{ℕ, ◌*◌, ◌≤◌}
use mathlib.Core.Path.{◌≡◌, ◌∙◌}
use mathlib.Core.Bool.{true}
use mathlib.Core.List.{List}
use native.Mathlib.Nat.{mul-le-mul}
use native.Mathlib.Omega.{arith}
use lib.IntN.{pos}
use lib.Signed.{◌≤ℤ◌}
use Rattle.std.proofs.lemmas.Int.{ints}
use Rattle.base.specs.Search.{Run}
use Rattle.rules.specs.District.{District, most_segments, most_strategies, segments_of, strategies_of, leader_of}
use Rattle.rules.specs.Rating.{total_of}
use Rattle.rules.specs.Table.{table_of}
use Rattle.rules.specs.Phases.{strategy_at, chosen_benefit, total, respects}
use Rattle.rules.specs.Ceiling.{ceiling}
use Rattle.rules.specs.Plan.{reduced, improved, programme_from, programme_of}
use Rattle.rules.specs.Demands.{Finished, Feasible, leaders_respected, leaders_worth, Rival, Apart, strategy_in, Sound, Shown}
use Rattle.laws.specs.Tables.{FitAlone, OfCandidates}
use Rattle.laws.proofs.Leaders.{LowerLeaders}
use Rattle.laws.proofs.Gives.{candidates_numbers}
use Rattle.theorems.proofs.Entries.{past_is, table_fit}
use Rattle.theorems.proofs.Totals.{total_is, permitted_is, worth_is, within_is}
use Rattle.theorems.proofs.Feasible.{feasible_rival, feasible_total, rival_heeding}
use Rattle.theorems.proofs.Duality.{ceiling_bounds}
use Rattle.theorems.proofs.Rivals.{neighbour}
use Rattle.theorems.proofs.Programmes.{Begins}
use Rattle.theorems.proofs.Programmes as programmes

module _ (d : District) (few : segments_of d ≤ most_segments) (begun : Run (List ℕ)) (begins : Begins (table_of d) (leader_of d) begun) where
  fit : FitAlone (table_of d)
  fit = table_fit d few

  candidates : OfCandidates (table_of d) (improved (table_of d) (leader_of d) begun).last
  candidates = programmes.improved_candidates (table_of d) (leader_of d) fit begun begins

  pub finished : Finished (table_of d) (leader_of d) begun
  finished = programmes.finished (table_of d) (leader_of d) fit begun begins

  total_shown : total_of d (strategy_in (programme_from (table_of d) (leader_of d) begun)) ≡ pos (programme_from (table_of d) (leader_of d) begun).total
  unfolding programme_from total chosen_benefit table_of
  total_shown = total_is d (strategy_at (improved (table_of d) (leader_of d) begun).last) candidates.each

  feasible : Feasible d (strategy_in (programme_from (table_of d) (leader_of d) begun))
  unfolding programme_from table_of
  feasible =
      record {
        permitted = permitted_is d (strategy_at (improved (table_of d) (leader_of d) begun).last) candidates.each;
        within =
            within_is d (improved (table_of d) (leader_of d) begun).last (candidates_numbers (table_of d) (improved (table_of d) (leader_of d) begun).last candidates)
            ∙ programmes.improved_within (table_of d) (leader_of d) fit begun begins;
      }

  ceiling_covers : (c : ℕ → ℕ) → Feasible d c → total_of d c ≤ℤ pos (ceiling (table_of d))
  ceiling_covers c rival = omega (arith, ints, feasible_total d c rival, ceiling_bounds (table_of d) fit c (feasible_rival d c rival))

  module _ (lower : LowerLeaders (leader_of d) (segments_of d)) where
    leaders : leaders_respected d (strategy_in (programme_from (table_of d) (leader_of d) begun)) ≡ true
    unfolding leaders_respected respects programme_from table_of
    leaders = programmes.improved_respects (table_of d) (leader_of d) fit begun begins lower

    -- the programme shown is one of the rivals itself
    pub worth : leaders_worth d (strategy_in (programme_from (table_of d) (leader_of d) begun)) ≡ true
    unfolding programme_from table_of
    worth = worth_is d (strategy_at (improved (table_of d) (leader_of d) begun).last) candidates.each lower

    neighbours :
        (c : ℕ → ℕ) → Rival d c → (i k : ℕ) → Apart d i k (strategy_in (programme_from (table_of d) (leader_of d) begun)) c
        → total_of d c ≤ℤ total_of d (strategy_in (programme_from (table_of d) (leader_of d) begun))
    unfolding programme_from table_of
    neighbours c rival i k apart =
        let less =
        neighbour (table_of d) fit (leader_of d) lower (improved (table_of d) (leader_of d) begun).last candidates finished.changes c
        (feasible_rival d c rival.feasible) (rival_heeding d lower c rival) i k apart.elsewhere in
        rw total_shown (omega (arith, ints, feasible_total d c rival.feasible))

    pub sound : Sound d (programme_from (table_of d) (leader_of d) begun)
    unfolding programme_from
    sound = record { feasible = feasible; leaders = leaders; neighbours = neighbours; ceiling = ceiling_covers }

  pub shown : Shown d (programme_from (table_of d) (leader_of d) begun)
  unfolding programme_from table_of
  shown =
      record {
        total = total_shown;
        places = candidates.places;
        past = λ i past. programmes.improved_past (table_of d) (leader_of d) fit begun begins (past_is d) i (omega arith) past;
        changes = omega (arith, programmes.few_changes (table_of d) (leader_of d) fit begun begins);
      }

-- ---- the ordinary programme

module _ (d : District) (few : segments_of d ≤ most_segments) where
  pub ordinary : Begins (table_of d) (leader_of d) (reduced (table_of d) (leader_of d))
  ordinary = programmes.reduced_begins (table_of d) (leader_of d) (table_fit d few)

  pub few_steps : strategies_of d ≤ most_strategies → (programme_of (table_of d) (leader_of d)).steps ≤ most_segments * most_strategies
  unfolding programme_of programme_from table_of
  few_steps s = omega (arith, programmes.few_steps (table_of d) (leader_of d) (table_fit d few), mul-le-mul few s)
