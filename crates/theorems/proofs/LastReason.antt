-- Where none of the first eight reasons holds, the ninth does, under a programme that demand 3 speaks of: with strategy j on segment i it is a
-- rival, of permitted strategies, within the limits, respecting leaders and one segment away, and so has no greater total.
use Prim.Native.Nat.{ℕ, ◌≤◌}
use mathlib.Core.Path.{◌≡◌, refl, sym}
use mathlib.Core.Bool.{Bool, true, false, not, ◌&&◌}
use mathlib.Core.List.{List}
use Rattle.std.specs.Prelude.{None}
use native.Mathlib.Omega.{arith}
use borrow.Author.Tests.{le-leb, ltb-false, ne_eqb, eqb-true, eqb-false, not-false}
use lib.Dec.{eqb}
use lib.Ieee.Bits.{is_true}
use lib.ListN.{length}
use lib.Signed.{le_z}
use Rattle.std.proofs.lemmas.Bool.{and_from}
use Rattle.base.proofs.Choice.{between_yes}
use Rattle.base.proofs.Integers.{above_zero}
use Rattle.base.proofs.All.{all_true, all_at}
use Rattle.rules.specs.District.{District, segments_of, strategies_of, years_of, distresses_of, resources_of, barred_in, leader_of}
use Rattle.rules.specs.Rating.{benefit, scaled_limit, minimum_reached, years_reached, minima_reached, overall_reached, permitted, total_of}
use Rattle.rules.specs.Table.{table_of}
use Rattle.rules.specs.Phases.{strategy_at, used, holds as limit_holds, within, led, respects}
use Rattle.rules.specs.Reasons.{holds, asked, hindrance}
use Rattle.rules.specs.Demands.{permitted_at, all_permitted, Feasible, leaders_respected, leader_worth, leaders_worth, Rival, Apart, Sound}
use Rattle.rules.specs.declared.Programme.{Programme}
use Rattle.rules.specs.declared.Reason.{Reason}
use Rattle.rules.specs.declared.Reason.TheVariants.{Barred, MinimumMissed, OverallMissed, NoBenefit, LeaderHasNothing, OverBeside, NoGreaterTotal}
use Rattle.laws.proofs.Give.{given, kept}
use Rattle.laws.proofs.Leaders.{give_respects}
use Rattle.theorems.specs.Reasons.{names, Explained}
use Rattle.theorems.proofs.Entries.{limit_is}
use Rattle.theorems.proofs.Totals.{within_is}
use Rattle.theorems.proofs.Feasible.{numbers}
use Rattle.theorems.proofs.Reasons.{number, none_holds, explained_last}

module _
    (d : District) (p : Programme) (i j : ℕ) (sound : Sound d p) (worth : leaders_worth d (strategy_at p.strategies) ≡ true)
    (room : segments_of d ≤ length p.strategies)
    (l : 1 ≤ i) (h : i ≤ segments_of d) (lj : 1 ≤ j) (hj : j ≤ strategies_of d)
    (none_found : hindrance d p.strategies i j ≡ None) where
  free : (q : Reason) → names d q ≡ true → number q ≤ 8 → holds d p.strategies i j q ≡ false
  free = none_holds d p.strategies i j none_found

  abbrev rival : List ℕ
  rival = asked d p.strategies i j

  j_permitted : permitted d i j ≡ true
  unfolding permitted minima_reached years_reached holds names
  j_permitted =
      and_from (not (barred_in d i j)) (minima_reached d i j && overall_reached d i j)
      (rw (free Barred refl (omega arith)))
      (and_from (minima_reached d i j) (overall_reached d i j)
      (all_true (distresses_of d) (years_reached d i j)
      (λ k lk hk. all_true (years_of d) (minimum_reached d i j k)
      (λ t lt ht. not-false (minimum_reached d i j k t)
      (free (MinimumMissed k t) (rw (between_yes 1 (distresses_of d) k lk hk, between_yes 1 (years_of d) t lt ht)) (omega arith)))))
      (not-false (overall_reached d i j) (free OverallMissed refl (omega arith))))

  rival_permitted : all_permitted d (strategy_at rival) ≡ true
  unfolding all_permitted permitted_at
  rival_permitted = all_true (segments_of d) (permitted_at d (strategy_at rival)) (λ m lm hm. known m lm hm (eqb m i) refl)
    where
      known : (m : ℕ) → 1 ≤ m → m ≤ segments_of d → (t : Bool) → eqb m i ≡ t → permitted_at d (strategy_at rival) m ≡ true
      known m lm hm true e =
          rw (eqb-true m i e, given p.strategies i j l (omega arith), ne_eqb j 0 (λ z. omega arith), le-leb j (strategies_of d) hj, j_permitted)
      known m lm hm false e =
          rw (kept p.strategies i j m l lm (eqb-false m i e))
          (all_at (segments_of d) (permitted_at d (strategy_at p.strategies)) sound.feasible.permitted m lm hm)

  rival_within : within (table_of d) rival ≡ true
  unfolding within limit_holds holds names table_of
  rival_within =
      all_true (resources_of d) (limit_holds (table_of d) rival)
      (λ r lr hr. le-leb (used (table_of d) rival r) ((table_of d).limit r)
      (rw (limit_is d r lr hr) (ltb-false (scaled_limit d r) (used (table_of d) rival r) (free (OverBeside r) (between_yes 1 (resources_of d) r lr hr) (omega arith)))))

  rival_feasible : Feasible d (strategy_at rival)
  rival_feasible =
      record { permitted = rival_permitted; within = rw (within_is d rival (numbers d (strategy_at rival) rival_permitted)) rival_within }

  rival_leaders : leaders_respected d (strategy_at rival) ≡ true
  unfolding leaders_respected respects holds names
  rival_leaders =
      give_respects (leader_of d) (segments_of d) p.strategies i j l (omega arith) lj
      (not-false (led (leader_of d) (strategy_at p.strategies) i) (free LeaderHasNothing refl (omega arith))) sound.leaders

  rival_worth : leaders_worth d (strategy_at rival) ≡ true
  unfolding leaders_worth leader_worth holds names
  rival_worth =
      all_true (segments_of d) (leader_worth d (strategy_at rival))
      (λ m lm hm. known m (eqb (leader_of d m) 0) refl (eqb (leader_of d m) i) refl (all_at (segments_of d) (leader_worth d (strategy_at p.strategies)) worth m lm hm))
    where
      known :
          (m : ℕ) → (x : Bool) → eqb (leader_of d m) 0 ≡ x → (y : Bool) → eqb (leader_of d m) i ≡ y → leader_worth d (strategy_at p.strategies) m ≡ true
          → leader_worth d (strategy_at rival) m ≡ true
      known m true e y f was = rw e
      known m false e true f was =
          rw (eqb-true (leader_of d m) i f, ne_eqb i 0 (λ z. omega arith), given p.strategies i j l (omega arith), ne_eqb j 0 (λ z. omega arith))
          (above_zero (benefit d i j) (free NoBenefit refl (omega arith))).0
      known m false e false f was =
          let some-leader = eqb-false (leader_of d m) 0 e in
          rw (kept p.strategies i j (leader_of d m) l (omega arith) (eqb-false (leader_of d m) i f)) was

  rival_rival : Rival d (strategy_at rival)
  rival_rival = record { feasible = rival_feasible; leaders = rival_leaders; worth = rival_worth }

  rival_apart : Apart d i i (strategy_at p.strategies) (strategy_at rival)
  rival_apart = record { elsewhere = λ m lm hm ne ne'. sym (kept p.strategies i j m l lm ne) }

  last_holds : holds d p.strategies i j NoGreaterTotal ≡ true
  unfolding holds
  last_holds =
      and_from (within (table_of d) rival) (le_z (total_of d (strategy_at rival)) (total_of d (strategy_at p.strategies))) rival_within
      (is_true _ (sound.neighbours (strategy_at rival) rival_rival i i rival_apart).le)

  pub last_explained : Explained d p.strategies i j NoGreaterTotal
  last_explained = explained_last d p.strategies i j none_found last_holds
