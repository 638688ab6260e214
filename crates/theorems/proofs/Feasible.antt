-- A feasible programme, of any permitted strategies, is within the table's limits, and its total is at most what the table makes of it. Leaders
-- of some benefit have candidates.
use Prim.Native.Nat.{ℕ, zero, suc, ◌≤◌}
use mathlib.Core.Path.{◌≡◌, refl}
use mathlib.Core.Bool.{true, ◌&&◌, ◌||◌}
use mathlib.Core.Logic.{inl, inr}
use native.Mathlib.Omega.{arith}
use borrow.Author.Tests.{leb-true, le-leb, ne_eqb}
use lib.Dec.{leb, eqb, le→leb}
use lib.IntN.{pos}
use lib.Signed.{lt_z, ◌≤ℤ◌, le_z_yes}
use Rattle.base.specs.Over.{sum}
use Rattle.std.proofs.lemmas.Bool.{and_parts, and_from}
use Rattle.base.proofs.Sums.{sum_part}
use Rattle.base.proofs.All.{all_at, all_true}
use Rattle.rules.specs.District.{District, segments_of, strategies_of, resources_of, leader_of}
use Rattle.rules.specs.Rating.{benefit, usage, scaled_limit, permitted, fits_limit, fits_alone, candidate, usage_by, within_limit, within_limits, benefit_by, total_of}
use Rattle.rules.specs.Table.{candidate_benefit, table_of}
use Rattle.rules.specs.Phases.{heeds}
use Rattle.rules.specs.Demands.{permitted_at, all_permitted, Feasible, leaders_respected, leader_worth, leaders_worth, Rival as DistrictRival}
use Rattle.laws.specs.Tables.{Allowed}
use Rattle.laws.proofs.Leaders.{LowerLeaders}
use Rattle.theorems.specs.Rivals.{total_by, Rival, Heeding}
use Rattle.theorems.proofs.SignedSums.{sum_z_le}
use Rattle.theorems.proofs.Covers.{covers}
use Rattle.theorems.proofs.Entries.{has_both, limit_is}
use Rattle.theorems.proofs.Totals.{Numbers, uses_are}
use Rattle.theorems.proofs.BestCandidates.{worth}

module _ (d : District) (c : ℕ → ℕ) (permits : all_permitted d c ≡ true) where
  -- the strategy of a segment is nothing, or permitted
  given_by :
      (P : ℕ → Type 0) (i : ℕ) → 1 ≤ i → i ≤ segments_of d → P 0
      → ((j : ℕ) → 1 ≤ j → j ≤ strategies_of d → permitted d i j ≡ true → c i ≡ j → P j) → P (c i)
  unfolding all_permitted permitted_at
  given_by P i l h none some = go (c i) refl (all_at (segments_of d) (permitted_at d c) permits i l h)
    where
      go : (j : ℕ) → c i ≡ j → (eqb (c i) 0 || (leb (c i) (strategies_of d) && permitted d i (c i))) ≡ true → P j
      go zero e ok = none
      go (suc j) e ok =
          let w = and_parts (leb (suc j) (strategies_of d)) (permitted d i (suc j)) (rw (e, ne_eqb (suc j) 0 (λ z. omega arith)) at ok) in
          some (suc j) (omega arith) (leb-true (suc j) (strategies_of d) w.0) w.1 e

  pub numbers : Numbers d c
  numbers i l h = given_by (λ j. j ≤ strategies_of d) i l h (omega arith) (λ j lj hj ok e. hj)

module _ (d : District) (c : ℕ → ℕ) (feasible : Feasible d c) where
  within_limit_lem : (r : ℕ) → 1 ≤ r → r ≤ resources_of d → sum (segments_of d) (usage_by d c r) ≤ scaled_limit d r
  unfolding within_limits within_limit
  within_limit_lem r lr hr =
      leb-true (sum (segments_of d) (usage_by d c r)) (scaled_limit d r) (all_at (resources_of d) (within_limit d c) feasible.within r lr hr)

  pub feasible_rival : Rival (table_of d) c
  unfolding table_of
  feasible_rival =
      record {
        numbers = numbers d c feasible.permitted;
        within = λ r lr hr. rw (← uses_are d c (numbers d c feasible.permitted) r lr hr, limit_is d r lr hr) (within_limit_lem r lr hr);
      }

  alone : (i : ℕ) → 1 ≤ i → i ≤ segments_of d → fits_alone d i (c i) ≡ true
  unfolding fits_alone fits_limit usage_by
  alone i l h =
      all_true (resources_of d) (fits_limit d i (c i))
      (λ r lr hr. le-leb (usage d i (c i) r) (scaled_limit d r) (omega (arith, sum_part (segments_of d) (usage_by d c r) i l h, within_limit_lem r lr hr)))

  benefit_le : (i : ℕ) → 1 ≤ i → i ≤ segments_of d → benefit d i (c i) ≤ℤ pos (candidate_benefit d i (c i))
  unfolding benefit
  benefit_le i l h =
      given_by d c feasible.permitted (λ j. benefit d i j ≤ℤ pos (candidate_benefit d i j)) i l h (le_z_yes (le→leb 0 (candidate_benefit d i 0) (omega arith)))
      (λ j lj hj ok e. covers d i j (has_both d i j l h lj hj) ok (rw e at (alone i l h)))

  pub feasible_total : total_of d c ≤ℤ pos (total_by (table_of d) c)
  unfolding total_of benefit_by table_of
  feasible_total = sum_z_le (segments_of d) (benefit_by d c) (λ i. candidate_benefit d i (c i)) benefit_le

  -- a strategy of some benefit is a candidate
  some_benefit : (i : ℕ) → 1 ≤ i → i ≤ segments_of d → (eqb (c i) 0 || lt_z (pos 0) (benefit d i (c i))) ≡ true → Allowed (table_of d) i (c i)
  unfolding candidate table_of
  some_benefit i l h worthy =
      given_by d c feasible.permitted (Allowed (table_of d) i) i l h (inl refl)
      (λ j lj hj ok e.
      let above : lt_z (pos 0) (benefit d i j) ≡ true = rw (e, ne_eqb j 0 (λ z. omega arith)) at worthy in
      let fits : fits_alone d i j ≡ true = rw e at (alone i l h) in
      inr (lj, hj, worth d i l h j lj hj (and_from (permitted d i j) (lt_z (pos 0) (benefit d i j) && fits_alone d i j) ok (and_from (lt_z (pos 0) (benefit d i j)) (fits_alone d i j) above fits))))

pub rival_heeding : (d : District) → LowerLeaders (leader_of d) (segments_of d) → (c : ℕ → ℕ) → DistrictRival d c → Heeding (table_of d) c (leader_of d)
unfolding leaders_respected leaders_worth leader_worth table_of
rival_heeding d lower c rival =
    record {
      heeds = all_at (segments_of d) (heeds (leader_of d) c) rival.leaders;
      worth = λ i l h some-leader.
          let below = lower i l h in
          some_benefit d c rival.feasible (leader_of d i) some-leader (omega arith)
          (rw (ne_eqb (leader_of d i) 0 (λ z. omega arith)) at (all_at (segments_of d) (leader_worth d c) rival.worth i l h));
    }
