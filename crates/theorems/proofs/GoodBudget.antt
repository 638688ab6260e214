-- Where the best candidates fit together and respect leaders, phase 1 starts from them and makes no step, and the other phases do not lower the
-- total. So it is at least that of the best candidates, and the ceiling at most; and no total is above the ceiling. Where the two are equal, no
-- total is above this one.
use Prim.Native.Nat.{ℕ, ◌≤◌}
use mathlib.Core.Path.{◌≡◌, ap, sym, ◌∙◌}
use mathlib.Core.Bool.{true}
use mathlib.Core.List.{List}
use native.Mathlib.Omega.{arith}
use lib.Dec.{leb→le}
use Rattle.base.specs.Search.{Run}
use Rattle.base.proofs.Runs.{run_end}
use Rattle.base.proofs.All.{all_at, all_cong}
use Rattle.base.proofs.Sums.{sum_cong}
use Rattle.rules.specs.District.{District, most_segments, segments_of, resources_of, leader_of}
use Rattle.rules.specs.Rating.{usage_by, within_limit, within_limits}
use Rattle.rules.specs.Table.{Table, table_of}
use Rattle.rules.specs.Phases.{strategy_at, total, within, bests, heeds, start, step, phase1}
use Rattle.rules.specs.Plan.{reduced, improved, programme_from, programme_of}
use Rattle.rules.specs.Demands.{leaders_respected, Sound, Shown}
use Rattle.rules.specs.declared.Programme.{Programme}
use Rattle.laws.specs.Tables.{FitAlone}
use Rattle.laws.proofs.Gives.{candidates_numbers}
use Rattle.laws.proofs.Leaders.{LowerLeaders, heeds_still, pruned_same}
use Rattle.laws.proofs.Steps.{bests_at, bests_allowed, step_within}
use Rattle.theorems.specs.GoodBudget.{best_candidate, AtCeiling, Optimal}
use Rattle.theorems.proofs.Entries.{table_fit}
use Rattle.theorems.proofs.Totals.{within_is}
use Rattle.theorems.proofs.BestCandidates.{best_is}
use Rattle.theorems.proofs.Prices.{ceiling_le}
use Rattle.theorems.proofs.Programmes as programmes
use Rattle.theorems.proofs.Promises as promises

-- ---- of a table

module _ (t : Table) (leader : ℕ → ℕ) (fit : FitAlone t) (fits : within t (bests t) ≡ true)
    (heeding : (i : ℕ) → 1 ≤ i → i ≤ t.segments → heeds leader (strategy_at (bests t)) i ≡ true) where
  start_is : start t leader ≡ bests t
  unfolding start
  start_is = pruned_same leader t.segments (bests t) heeding

  reduced_is : (reduced t leader).last ≡ bests t
  unfolding reduced phase1
  reduced_is = rw start_is (ap (λ (r : Run (List ℕ)). r.last) (run_end (step t leader) _ (bests t) (step_within t leader (bests t) fits)))

  total_ge : total t (bests t) ≤ total t (improved t leader (reduced t leader)).last
  total_ge = rw (← reduced_is) (programmes.total_rises t leader fit (reduced t leader) (programmes.reduced_begins t leader fit))

-- ---- of a district

module _ (d : District) (few : segments_of d ≤ most_segments) (lower : LowerLeaders (leader_of d) (segments_of d)) where
  -- the best candidates of the table are the district's,
  best_at : (i : ℕ) → 1 ≤ i → i ≤ segments_of d → best_candidate d i ≡ strategy_at (bests (table_of d)) i
  best_at i l h = sym (bests_at (table_of d) i l (omega arith) ∙ best_is d i l h)

  -- by the table's limits as by the district's,
  within_same : within_limits d (best_candidate d) ≡ within (table_of d) (bests (table_of d))
  unfolding within_limits within_limit usage_by table_of
  within_same =
      all_cong (resources_of d) (within_limit d (best_candidate d)) (within_limit d (strategy_at (bests (table_of d))))
      (λ r lr hr. rw (sum_cong (segments_of d) (usage_by d (best_candidate d) r) (usage_by d (strategy_at (bests (table_of d))) r)
      (λ i l h. rw (best_at i l h))))
      ∙ within_is d (bests (table_of d)) (candidates_numbers (table_of d) (bests (table_of d)) (bests_allowed (table_of d) few))

  -- and heed the same leaders
  heeds_same : leaders_respected d (best_candidate d) ≡ true → (i : ℕ) → 1 ≤ i → i ≤ segments_of d → heeds (leader_of d) (strategy_at (bests (table_of d))) i ≡ true
  unfolding leaders_respected
  heeds_same respected i l h =
      let below = lower i l h in
      heeds_still (leader_of d) (best_candidate d) (strategy_at (bests (table_of d))) i (best_at i l h) (λ some-leader. best_at (leader_of d i) some-leader (omega arith))
      (all_at (segments_of d) (heeds (leader_of d) (best_candidate d)) respected i l h)

  total_le : (programme_of (table_of d) (leader_of d)).total ≤ (programme_of (table_of d) (leader_of d)).ceiling
  unfolding programme_of
  total_le =
      let begun = reduced (table_of d) (leader_of d) in
      let begins = promises.ordinary d few in
      let sound = promises.sound d few begun begins lower in
      leb→le (programme_of (table_of d) (leader_of d)).total (programme_of (table_of d) (leader_of d)).ceiling
      (rw (promises.shown d few begun begins).total at (sound.ceiling _ sound.feasible)).le

  pub at_ceiling : AtCeiling d (programme_of (table_of d) (leader_of d))
  unfolding programme_of programme_from table_of
  at_ceiling =
      record {
        equal = λ respected fits.
            let fit = table_fit d few in
            omega (arith, total_le, ceiling_le (table_of d) fit, total_ge (table_of d) (leader_of d) fit (sym within_same ∙ fits) (heeds_same respected));
      }

pub optimal : (d : District) (p : Programme) → Sound d p → Shown d p → Optimal d p
optimal d p sound shown = record { none_greater = λ equal c feasible. rw (shown.total, equal) (sound.ceiling c feasible) }
