-- A programme of candidates or nothing has the same total, and is as much within the limits, by the table as by the district; in it each leader
-- has nothing or a strategy of some benefit.
use Prim.Native.Nat.{ℕ, ◌≤◌}
use mathlib.Core.Path.{◌≡◌, refl, sym}
use mathlib.Core.Bool.{Bool, true, false, ◌&&◌, ◌||◌}
use mathlib.Core.List.{List}
use mathlib.Core.Logic.{inl, inr}
use native.Mathlib.Omega.{arith}
use borrow.Author.Tests.{le-leb, lt-ltb, eqb-false, eq-eqb, ne_eqb}
use lib.Dec.{leb, eqb}
use lib.IntN.{pos}
use lib.Signed.{lt_z}
use Rattle.base.specs.Over.{sum}
use Rattle.base.proofs.Sums.{sum_cong}
use Rattle.base.proofs.All.{all_cong, all_true}
use Rattle.rules.specs.District.{District, segments_of, strategies_of, resources_of, leader_of}
use Rattle.rules.specs.Rating.{benefit, permitted, usage_by, within_limit, within_limits, benefit_by, total_of}
use Rattle.rules.specs.Table.{candidate_benefit, table_of}
use Rattle.rules.specs.Phases.{strategy_at, chosen_usage, used, holds, within}
use Rattle.rules.specs.Demands.{permitted_at, all_permitted, leader_worth, leaders_worth}
use Rattle.laws.specs.Tables.{Allowed}
use Rattle.laws.proofs.Leaders.{LowerLeaders}
use Rattle.theorems.specs.Rivals.{total_by, used_by}
use Rattle.theorems.proofs.SignedSums.{sum_z_pos}
use Rattle.theorems.proofs.Entries.{usage_is, limit_is, nothing_is, candidate_permitted, candidate_benefit_lem}

module _ (d : District) (c : ℕ → ℕ) where
  -- every segment's strategy is one of the district
  abbrev pub Numbers : Type 0
  Numbers = (i : ℕ) → 1 ≤ i → i ≤ segments_of d → c i ≤ strategies_of d

  pub uses_are : Numbers → (r : ℕ) → 1 ≤ r → r ≤ resources_of d → sum (segments_of d) (usage_by d c r) ≡ used_by (table_of d) c r
  unfolding usage_by table_of
  uses_are numbers r lr hr =
      sum_cong (segments_of d) (usage_by d c r) (λ i. (table_of d).usage i (c i) r) (λ i l h. sym (usage_is d i (c i) r l h (numbers i l h) lr hr))

  module _ (allowed : (i : ℕ) → 1 ≤ i → i ≤ segments_of d → Allowed (table_of d) i (c i)) where
    pub benefit_is : (i j : ℕ) → 1 ≤ i → i ≤ segments_of d → Allowed (table_of d) i j → benefit d i j ≡ pos (candidate_benefit d i j)
    unfolding benefit table_of
    benefit_is i j l h (inl z) = rw (z, nothing_is d i l h)
    benefit_is i j l h (inr ok) = candidate_benefit_lem d i j ok.2

    pub total_is : total_of d c ≡ pos (total_by (table_of d) c)
    unfolding total_of benefit_by table_of
    total_is = sum_z_pos (segments_of d) (benefit_by d c) (λ i. candidate_benefit d i (c i)) (λ i l h. benefit_is i (c i) l h (allowed i l h))

    may : (i j : ℕ) → Allowed (table_of d) i j → (eqb j 0 || (leb j (strategies_of d) && permitted d i j)) ≡ true
    unfolding table_of
    may i j (inl z) = rw (eq-eqb j 0 z)
    may i j (inr ok) = rw (ne_eqb j 0 (λ z. omega arith), le-leb j (strategies_of d) ok.1, candidate_permitted d i j ok.2)

    pub permitted_is : all_permitted d c ≡ true
    unfolding all_permitted permitted_at
    permitted_is = all_true (segments_of d) (permitted_at d c) (λ i l h. may i (c i) (allowed i l h))

    worthy : (i j : ℕ) → Allowed (table_of d) i j → (eqb j 0 || lt_z (pos 0) (benefit d i j)) ≡ true
    unfolding table_of
    worthy i j (inl z) = rw (eq-eqb j 0 z)
    worthy i j (inr ok) = rw (ne_eqb j 0 (λ z. omega arith), candidate_benefit_lem d i j ok.2) (lt-ltb 0 (candidate_benefit d i j) ok.2)

    pub worth_is : LowerLeaders (leader_of d) (segments_of d) → leaders_worth d c ≡ true
    unfolding leaders_worth leader_worth
    worth_is lower = all_true (segments_of d) (leader_worth d c) (λ i l h. known i l h (eqb (leader_of d i) 0) refl)
      where
        known : (i : ℕ) → 1 ≤ i → i ≤ segments_of d → (x : Bool) → eqb (leader_of d i) 0 ≡ x → (x || (eqb (c (leader_of d i)) 0 || lt_z (pos 0) (benefit d (leader_of d i) (c (leader_of d i))))) ≡ true
        known i l h true e = refl
        known i l h false e =
            let some-leader = eqb-false (leader_of d i) 0 e in
            let below = lower i l h in
            worthy (leader_of d i) (c (leader_of d i)) (allowed (leader_of d i) (omega arith) (omega arith))

-- the limits hold by the table as by the district
pub within_is : (d : District) (c : List ℕ) → Numbers d (strategy_at c) → within_limits d (strategy_at c) ≡ within (table_of d) c
unfolding within_limits within within_limit holds used chosen_usage table_of
within_is d c numbers =
    all_cong (resources_of d) (within_limit d (strategy_at c)) (holds (table_of d) c)
    (λ r lr hr. rw (uses_are d (strategy_at c) numbers r lr hr, limit_is d r lr hr))
