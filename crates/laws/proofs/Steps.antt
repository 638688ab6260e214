-- Phase 1 step by step: what a step is, and that programmes of candidates stay such.
use Prim.Native.Nat.{ℕ, zero, suc, ◌+◌, ◌-◌, ◌≤◌}
use mathlib.Core.Path.{◌≡◌, refl, ap, subst, ◌∙◌}
use mathlib.Core.Bool.{Bool, true, false}
use mathlib.Core.List.{List}
use mathlib.Core.Logic.{inl, inr}
use Rattle.std.specs.Prelude.{Option, None, Some}
use native.Mathlib.Omega.{arith}
use borrow.Author.Tests.{ltb-true}
use Rattle.base.specs.Over.{best}
use Rattle.std.proofs.lemmas.Bool.{and_parts}
use Rattle.base.proofs.Best.{best_ind, best_le}
use Rattle.base.proofs.Listed.{listed_at, listed_length}
use Rattle.rules.specs.District.{most_segments}
use Rattle.rules.specs.Table.{Table}
use Rattle.rules.specs.Phases.{strategy_at, give, is_candidate, greater, top_candidate, bests, respects, pruned, start, within, pulls, lesser_ratio, weakest, comes_after, next_candidate, step_down, step}
use Rattle.laws.specs.Tables.{Allowed, OfCandidates}
use Rattle.laws.proofs.Gives.{Gives, give_gives, gives_then, gives_candidates}
use Rattle.laws.proofs.Leaders.{LowerLeaders, pruned_gives, pruned_respects}

module _ (t : Table) where
  pub candidate_worth : (i j : ℕ) → is_candidate t i j ≡ true → 1 ≤ t.benefit i j
  unfolding is_candidate
  candidate_worth i j e = ltb-true 0 (t.benefit i j) e

  -- the best of those that are candidates, or nothing
  allowed_best : (i : ℕ) (p : ℕ → Bool) (better : ℕ → ℕ → Bool) → ((k : ℕ) → p k ≡ true → is_candidate t i k ≡ true) → Allowed t i (best t.strategies p better)
  allowed_best i p better cand = best_ind p better (Allowed t i) t.strategies (inl refl) (λ k l h e. inr (l, h, candidate_worth i k (cand k e)))

  pub top_allowed : (i : ℕ) → Allowed t i (top_candidate t i)
  unfolding top_candidate
  top_allowed i = allowed_best i (is_candidate t i) (greater t i) (λ k e. e)

  pub next_allowed : (i a : ℕ) → Allowed t i (next_candidate t i a)
  unfolding next_candidate comes_after
  next_allowed i a = allowed_best i (comes_after t i a) (greater t i) (λ k e. (and_parts (is_candidate t i k) _ e).0)

  pub bests_at : (i : ℕ) → 1 ≤ i → i ≤ most_segments → strategy_at (bests t) i ≡ top_candidate t i
  unfolding bests
  bests_at i l h = let e : 1 + (i - 1) ≡ i = omega arith in listed_at most_segments 1 (i - 1) (top_candidate t) (omega arith) ∙ ap (top_candidate t) e

  pub bests_allowed : t.segments ≤ most_segments → OfCandidates t (bests t)
  unfolding bests
  bests_allowed few = record { places = listed_length (top_candidate t) most_segments 1; each = λ i l h. rw (bests_at i l (omega arith)) (top_allowed i) }

  -- ---- what a step is

  pub weakest_le : (c : List ℕ) → weakest t c ≤ t.segments
  unfolding weakest
  weakest_le c = best_le t.segments (pulls t c) (lesser_ratio t c)

-- ---- with leaders

module _ (t : Table) (leader : ℕ → ℕ) where
  pub start_allowed : t.segments ≤ most_segments → OfCandidates t (start t leader)
  unfolding start
  start_allowed few =
      gives_candidates t (bests t) (pruned leader t.segments (bests t)) (pruned_gives leader t t.segments (bests t) (omega arith)) (bests_allowed t few)

  pub start_respects : LowerLeaders leader t.segments → respects leader t.segments (start t leader) ≡ true
  unfolding start
  start_respects lower = pruned_respects leader t.segments (bests t) lower

  -- the weakest segment's step, and the programme after it
  abbrev pub moved : List ℕ → ℕ → List ℕ
  moved c i = give c i (next_candidate t i (strategy_at c i))

  abbrev pub stepped : List ℕ → ℕ → List ℕ
  stepped c i = pruned leader t.segments (moved c i)

  pub step_within : (c : List ℕ) → within t c ≡ true → step t leader c ≡ None
  unfolding step
  step_within c e = rw e

  pub step_nobody : (c : List ℕ) → within t c ≡ false → weakest t c ≡ 0 → step t leader c ≡ None
  unfolding step step_down
  step_nobody c e w = rw (e, w)

  pub step_some : (c : List ℕ) → within t c ≡ false → (i : ℕ) → weakest t c ≡ i → 1 ≤ i → step t leader c ≡ Some (stepped c i)
  unfolding step step_down
  step_some c e zero w l = absurd (omega arith)
  step_some c e (suc i) w l = rw (e, w)

  -- the ways to go on
  pub step_cases : (c : List ℕ) (P : Option (List ℕ) → Type 0) → (within t c ≡ true → P None) → (within t c ≡ false → weakest t c ≡ 0 → P None)
      → ((i : ℕ) → weakest t c ≡ i → 1 ≤ i → i ≤ t.segments → P (Some (stepped c i))) → P (step t leader c)
  step_cases c P done nobody moves = known (within t c) refl (weakest t c) refl
    where
      known : (v : Bool) → within t c ≡ v → (i : ℕ) → weakest t c ≡ i → P (step t leader c)
      known true e i w = rw (step_within c e) (done e)
      known false e zero w = rw (step_nobody c e w) (nobody e w)
      known false e (suc i) w = rw (step_some c e (suc i) w (omega arith)) (moves (suc i) w (omega arith) (omega (arith, weakest_le t c)))

  stepped_gives : (c : List ℕ) (i : ℕ) → 1 ≤ i → i ≤ t.segments → Gives t c (stepped c i)
  stepped_gives c i l h =
      gives_then t c (moved c i) (stepped c i) (give_gives t c i (next_candidate t i (strategy_at c i)) l h (next_allowed t i (strategy_at c i)))
      (pruned_gives leader t t.segments (moved c i) (omega arith))

  pub step_gives : (c d : List ℕ) → step t leader c ≡ Some d → Gives t c d
  step_gives c d e =
      step_cases c (λ x. x ≡ Some d → Gives t c d) (λ w n. cc) (λ w z n. cc)
      (λ i w l h q. let is : stepped c i ≡ d = cc in subst (Gives t c) is (stepped_gives c i l h)) e

  pub step_allowed : (c d : List ℕ) → step t leader c ≡ Some d → OfCandidates t c → OfCandidates t d
  step_allowed c d e = gives_candidates t c d (step_gives c d e)

  pub step_respects : LowerLeaders leader t.segments → (c d : List ℕ) → step t leader c ≡ Some d → respects leader t.segments d ≡ true
  step_respects lower c d e =
      step_cases c (λ x. x ≡ Some d → respects leader t.segments d ≡ true) (λ w n. cc) (λ w z n. cc)
      (λ i w l h q. let is : stepped c i ≡ d = cc in rw (← is) (pruned_respects leader t.segments (moved c i) lower)) e
