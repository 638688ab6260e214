-- Phase 1 ends because every limit holds, after at most segments × strategies steps, with a candidate or nothing on each segment, and with
-- leaders respected. Of the table it takes that candidates fit alone, and of leaders that their numbers are lower.
use Prim.Native.Nat.{ℕ, zero, suc, ◌*◌, ◌≤◌, ◌<◌}
use mathlib.Core.Path.{◌≡◌, refl, subst, ◌∙◌}
use mathlib.Core.Bool.{Bool, true, false, ◌&&◌, ◌||◌}
use mathlib.Core.List.{List}
use mathlib.Core.Logic.{inl, inr, ⊎_elim}
use Rattle.std.specs.Prelude.{None, Some}
use native.Mathlib.Nat.{mul-pos, lt_of_mul-lt-mul_right}
use native.Mathlib.Omega.{arith}
use borrow.Author.Tests.{ltb-true, ltb-false, eqb-true, leb-true, leb-false, lt-ltb, le-ltb, eq-eqb}
use lib.Dec.{leb, ltb}
use lib.ListN.{get_or-eq_default}
use Rattle.base.specs.Choice.{pick}
use Rattle.base.specs.Over.{sum}
use Rattle.base.proofs.Sums.{sum_le, sum_lt, sum_bound, sum_part, sum_mul_right}
use Rattle.base.proofs.Best.{best_ind, best_some}
use Rattle.base.proofs.All.{all_true}
use Rattle.base.proofs.Runs.{run_ends, run_count}
use Rattle.rules.specs.District.{most_segments}
use Rattle.rules.specs.Table.{Table}
use Rattle.rules.specs.Phases.{strategy_at, is_candidate, greater, chosen_usage, used, holds, within, chosen_share, surplus, pull_by, pull, pulls, lesser_ratio, weakest, comes_after, next_candidate, top_candidate, bests, respects, pruned, start, step, phase1}
use Rattle.laws.specs.Tables.{FitAlone, Allowed, OfCandidates}
use Rattle.laws.proofs.Give.{sum_give}
use Rattle.laws.proofs.Gives.{Gives, gives_candidates, PastNothing, gives_past}
use Rattle.laws.proofs.Leaders.{LowerLeaders, pruned_drops, pruned_gives}
use Rattle.laws.proofs.Steps.{top_allowed, bests_at, bests_allowed, start_allowed, start_respects, step_cases, step_gives, step_allowed, step_respects, moved, stepped}
use Rattle.theorems.proofs.Searches.{run_gives, run_leads}
use Rattle.laws.proofs.Shares.{share_covers, share_none, chosen_fits}

-- ---- a limit that does not hold has a segment that pulls

module _ (t : Table) (fit : FitAlone t) (c : List ℕ) (o : OfCandidates t c) where
  -- the shares of a resource whose limit does not hold are beyond the whole limit's
  over_shares : (r : ℕ) → 1 ≤ r → r ≤ t.resources → t.limit r < used t c r → 10_000 < sum t.segments (chosen_share t c r)
  unfolding used chosen_share chosen_usage
  over_shares r lr hr over = known (t.limit r) refl
    where
      known : (l : ℕ) → t.limit r ≡ l → 10_000 < sum t.segments (chosen_share t c r)
      known zero e =
          let none-used = sum_bound t.segments 0 (chosen_usage t c r) (λ i li hi. omega (arith, chosen_fits t fit c o i r li hi lr hr)) in
          absurd (omega arith)
      known (suc l) e =
          let covers = sum_le t.segments (λ i. chosen_usage t c r i * 10_000) (λ i. chosen_share t c r i * t.limit r) (λ i li hi. share_covers t i (strategy_at c i) r (omega arith)) in
          let left = sum_mul_right t.segments 10_000 (chosen_usage t c r) in
          let right = sum_mul_right t.segments (t.limit r) (chosen_share t c r) in
          let more : 10_000 * t.limit r < sum t.segments (chosen_share t c r) * t.limit r = omega arith in
          lt_of_mul-lt-mul_right (t.limit r) more

  -- so they have a surplus
  over_surplus : (r : ℕ) → 1 ≤ r → r ≤ t.resources → holds t c r ≡ false → (1 ≤ surplus t c r) × (1 ≤ sum t.segments (chosen_share t c r))
  unfolding holds surplus
  over_surplus r lr hr e =
      let more = over_shares r lr hr (leb-false (used t c r) (t.limit r) e) in
      (rw e (omega arith), omega arith)

  -- where nobody pulls, no resource with a surplus has shares
  idle : weakest t c ≡ 0 → (i : ℕ) → 1 ≤ i → i ≤ t.segments → pull t c i ≡ 0
  unfolding weakest pulls
  idle w i l h = known (ltb 0 (pull t c i)) refl
    where
      known : (v : Bool) → ltb 0 (pull t c i) ≡ v → pull t c i ≡ 0
      known true e = absurd (omega (arith, best_some (pulls t c) (lesser_ratio t c) t.segments i l h e))
      known false e = omega (arith, ltb-false 0 (pull t c i) e)

  idle_share : weakest t c ≡ 0 → (r : ℕ) → 1 ≤ r → r ≤ t.resources → 1 ≤ surplus t c r → (i : ℕ) → 1 ≤ i → i ≤ t.segments → chosen_share t c r i ≤ 0
  unfolding pull pull_by
  idle_share w r lr hr some_surplus i l h = known (chosen_share t c r i) refl
    where
      known : (s : ℕ) → chosen_share t c r i ≡ s → s ≤ 0
      known zero e = omega arith
      known (suc s) e =
          let part = sum_part t.resources (pull_by t c i) r lr hr in
          let above : 1 ≤ chosen_share t c r i * surplus t c r = mul-pos (omega arith) some_surplus in
          absurd (omega (arith, idle w i l h))

  nobody_within : weakest t c ≡ 0 → within t c ≡ true
  unfolding within
  nobody_within w = all_true t.resources (holds t c) (λ r lr hr. known r lr hr (holds t c r) refl)
    where
      known : (r : ℕ) → 1 ≤ r → r ≤ t.resources → (v : Bool) → holds t c r ≡ v → holds t c r ≡ true
      known r lr hr true e = e
      known r lr hr false e =
          let Some = over_surplus r lr hr e in
          absurd (omega (arith, sum_bound t.segments 0 (chosen_share t c r) (idle_share w r lr hr Some.0)))

-- ---- a step goes down

abbrev one_if : Bool → ℕ
one_if true = 1
one_if false = 0

one_if_le : (x y : Bool) → (x ≡ true → y ≡ true) → one_if x ≤ one_if y
one_if_le true y h = rw (h refl) (omega arith)
one_if_le false y h = omega arith

one_if_lt : (x y : Bool) → (x ≡ true → ⊥) → y ≡ true → one_if x < one_if y
one_if_lt true y h e = absurd (h refl)
one_if_lt false y h e = rw e (omega arith)

split : {P : Type 0} (x y z w : Bool) → (x && (y || (z && w))) ≡ true → (x ≡ true → y ≡ true → P) → (x ≡ true → z ≡ true → w ≡ true → P) → P
split true true z w e f g = f refl refl
split true false true true e f g = g refl refl refl
split true false true false e f g = cc
split true false false w e f g = cc
split false y z w e f g = cc

module _ (t : Table) (i : ℕ) where
  after_cases : {P : Type 0} (a k : ℕ) → comes_after t i a k ≡ true → (1 ≤ t.benefit i k → t.benefit i k < t.benefit i a → P)
      → (1 ≤ t.benefit i k → t.benefit i k ≡ t.benefit i a → a < k → P) → P
  unfolding comes_after is_candidate greater
  after_cases a k e f g =
      split _ _ _ _ e
      (λ x y. f (ltb-true 0 (t.benefit i k) x) (ltb-true (t.benefit i k) (t.benefit i a) y))
      (λ x z w. g (ltb-true 0 (t.benefit i k) x) (eqb-true (t.benefit i k) (t.benefit i a) z) (ltb-true a k w))

  after_less : (a k : ℕ) → 1 ≤ t.benefit i k → t.benefit i k < t.benefit i a → comes_after t i a k ≡ true
  unfolding comes_after is_candidate greater
  after_less a k p h = rw (lt-ltb 0 (t.benefit i k) p, lt-ltb (t.benefit i k) (t.benefit i a) h)

  after_same : (a k : ℕ) → 1 ≤ t.benefit i k → t.benefit i k ≡ t.benefit i a → a < k → comes_after t i a k ≡ true
  unfolding comes_after is_candidate greater
  after_same a k p h l =
      rw (lt-ltb 0 (t.benefit i k) p, le-ltb (t.benefit i k) (t.benefit i a) (omega arith), eq-eqb (t.benefit i k) (t.benefit i a) h, lt-ltb a k l)

  -- the order: what comes after one that comes after a comes after a, and none after itself
  after_through : (a j k : ℕ) → comes_after t i a j ≡ true → comes_after t i j k ≡ true → comes_after t i a k ≡ true
  after_through a j k p q =
      after_cases a j p
      (λ pj h. after_cases j k q (λ pk g. after_less a k pk (omega arith)) (λ pk g l. after_less a k pk (omega arith)))
      (λ pj h lj. after_cases j k q (λ pk g. after_less a k pk (omega arith)) (λ pk g l. after_same a k pk (omega arith) (omega arith)))

  after_self : (a : ℕ) → comes_after t i a a ≡ true → ⊥
  after_self a p = after_cases a a p (λ pa h. omega arith) (λ pa h l. omega arith)

  -- how many candidates come after a
  abbrev afters : ℕ → ℕ
  afters a = sum t.strategies (λ k. one_if (comes_after t i a k))

  -- and a itself; none where a is nothing
  rank : ℕ → ℕ
  rank zero = 0
  rank (suc a) = suc (afters (suc a))

  rank_some : (a : ℕ) → 1 ≤ a → rank a ≡ suc (afters a)
  unfolding rank
  rank_some zero l = absurd (omega arith)
  rank_some (suc a) l = refl

  rank_small : (a : ℕ) → Allowed t i a → rank a ≤ t.strategies
  unfolding rank
  rank_small zero ok = omega arith
  rank_small (suc a) (inl e) = absurd (omega arith)
  rank_small (suc a) (inr w) =
      let fewer = sum_lt t.strategies (λ k. one_if (comes_after t i (suc a) k)) (λ _. 1) (λ k l h. one_if_le (comes_after t i (suc a) k) true (λ _. refl)) (suc a) (omega arith) w.1
      (one_if_lt (comes_after t i (suc a) (suc a)) true (after_self (suc a)) refl) in
      omega (arith, sum_bound t.strategies 1 (λ _. 1) (λ k l h. omega arith))

  rank_falls : (a : ℕ) → 1 ≤ a → rank (next_candidate t i a) < rank a
  unfolding next_candidate rank
  rank_falls a some-a =
      best_ind (comes_after t i a) (greater t i) (λ b. rank b < rank a) t.strategies (omega (arith, rank_some a some-a))
      (λ j l h e.
      let fewer = sum_lt t.strategies (λ k. one_if (comes_after t i j k)) (λ k. one_if (comes_after t i a k))
      (λ k lk hk. one_if_le (comes_after t i j k) (comes_after t i a k) (after_through a j k e)) j l h
      (one_if_lt (comes_after t i j j) (comes_after t i a j) (after_self j) e) in
      omega (arith, rank_some a some-a, rank_some j l))

-- how many candidates stand at the chosen ones or after them
pub potential : Table → List ℕ → ℕ
potential t c = sum t.segments (λ i. rank t i (strategy_at c i))

-- none of a segment without candidates
potential_of :
    (t : Table) (c : List ℕ) → OfCandidates t c → (none_there : ℕ → Bool) → ((i j : ℕ) → 1 ≤ i → i ≤ t.segments → none_there i ≡ true → Allowed t i j → j ≡ 0)
    → potential t c ≤ sum t.segments (λ i. pick (none_there i) 0 t.strategies)
unfolding potential rank
potential_of t c o none_there barren =
    sum_le t.segments (λ i. rank t i (strategy_at c i)) (λ i. pick (none_there i) 0 t.strategies) (λ i l h. each i l h (none_there i) refl)
  where
    each : (i : ℕ) → 1 ≤ i → i ≤ t.segments → (v : Bool) → none_there i ≡ v → rank t i (strategy_at c i) ≤ pick v 0 t.strategies
    each i l h true q = rw (barren i (strategy_at c i) l h q (o.each i l h)) (omega arith)
    each i l h false q = rank_small t i (strategy_at c i) (o.each i l h)

pub potential_small : (t : Table) (c : List ℕ) → OfCandidates t c → potential t c ≤ t.segments * t.strategies
unfolding potential
potential_small t c o = sum_bound t.segments t.strategies (λ i. rank t i (strategy_at c i)) (λ i l h. rank_small t i (strategy_at c i) (o.each i l h))

-- a segment that pruning leaves nothing has no candidates left
pruned_lowers : (t : Table) (leader : ℕ → ℕ) (c : List ℕ) → potential t (pruned leader t.segments c) ≤ potential t c
unfolding potential rank
pruned_lowers t leader c =
    let e = pruned leader t.segments c in
    sum_le t.segments (λ i. rank t i (strategy_at e i)) (λ i. rank t i (strategy_at c i))
    (λ i l h. ⊎_elim (λ same. rw same (omega arith)) (λ None. rw None (omega arith)) (pruned_drops leader t.segments c i l))

module _ (t : Table) (leader : ℕ → ℕ) (fit : FitAlone t) where
  -- a segment with nothing does not pull
  pull_nothing : (c : List ℕ) (i : ℕ) → 1 ≤ i → i ≤ t.segments → strategy_at c i ≡ 0 → pull t c i ≡ 0
  unfolding pull pull_by chosen_share
  pull_nothing c i l h e =
      let no-pull = sum_bound t.resources 0 (pull_by t c i)
      (λ r lr hr. rw (e, share_none t i 0 r (fit.nothing_uses i r l h lr hr)) (omega arith)) in
      omega arith

  weakest_pulls : (c : List ℕ) → 1 ≤ weakest t c → 1 ≤ pull t c (weakest t c)
  unfolding weakest pulls
  weakest_pulls c = best_ind (pulls t c) (lesser_ratio t c) (λ b. 1 ≤ b → 1 ≤ pull t c b) t.segments (λ l. absurd (omega arith)) (λ k l h e some-k. ltb-true 0 (pull t c k) e)

  pub step_falls : (c d : List ℕ) → step t leader c ≡ Some d → OfCandidates t c → potential t d < potential t c
  unfolding potential
  step_falls c d e o =
      step_cases t leader c (λ x. x ≡ Some d → potential t d < potential t c) (λ w n. cc) (λ w z n. cc)
      (λ i w l h q.
      let is : stepped t leader c i ≡ d = cc in
      let pulling : 1 ≤ pull t c i = rw w at (weakest_pulls c (omega arith)) in
      let some-i : 1 ≤ strategy_at c i = chosen i l h pulling (strategy_at c i) refl in
      subst (λ (x : List ℕ). potential t x < potential t c) is
      (omega (
        arith,
        pruned_lowers t leader (moved t leader c i),
        sum_give t c i (next_candidate t i (strategy_at c i)) l h (omega (arith, o.places, fit.segments)) (rank t),
        rank_falls t i (strategy_at c i) some-i,
      ))) e
    where
      chosen : (i : ℕ) → 1 ≤ i → i ≤ t.segments → 1 ≤ pull t c i → (a : ℕ) → strategy_at c i ≡ a → 1 ≤ a
      chosen i l h p zero z = absurd (omega (arith, pull_nothing c i l h z))
      chosen i l h p (suc a) z = omega arith

  -- a programme of candidates from which there is no step is within the limits
  stopped : (c : List ℕ) → OfCandidates t c → step t leader c ≡ None → within t c ≡ true
  stopped c o =
      step_cases t leader c (λ x. x ≡ None → within t c ≡ true) (λ w n. w) (λ w z n. nobody_within t fit c o z)
      (λ i w l h n. cc)

  -- each segment has a candidate or nothing at the end,
  phase1_gives : Gives t (start t leader) (phase1 t leader (start t leader)).last
  unfolding phase1
  phase1_gives = run_gives t (step t leader) (t.segments * t.strategies) (start t leader) (step_gives t leader)

  pub phase1_allowed : OfCandidates t (phase1 t leader (start t leader)).last
  phase1_allowed = gives_candidates t (start t leader) (phase1 t leader (start t leader)).last phase1_gives (start_allowed t leader fit.segments)

  -- there is no step from there,
  phase1_ends : step t leader (phase1 t leader (start t leader)).last ≡ None
  unfolding phase1
  phase1_ends =
      run_ends (step t leader) (OfCandidates t) (step_allowed t leader) (potential t) step_falls (t.segments * t.strategies) (start t leader) (start_allowed t leader fit.segments)
      (potential_small t (start t leader) (start_allowed t leader fit.segments))

  -- because every limit holds,
  pub phase1_within : within t (phase1 t leader (start t leader)).last ≡ true
  phase1_within = stopped (phase1 t leader (start t leader)).last phase1_allowed phase1_ends

  -- and the steps are few: at most a step for each strategy of each segment,
  steps_le : (phase1 t leader (start t leader)).count ≤ potential t (start t leader)
  unfolding phase1
  steps_le =
      omega (
        arith,
        run_count (step t leader) (OfCandidates t) (step_allowed t leader) (potential t) step_falls (t.segments * t.strategies) (start t leader) (start_allowed t leader fit.segments),
      )

  pub phase1_few : (phase1 t leader (start t leader)).count ≤ t.segments * t.strategies
  phase1_few = omega (arith, steps_le, potential_small t (start t leader) (start_allowed t leader fit.segments))

  -- and none for a segment without candidates
  pub phase1_fewer :
      (none_there : ℕ → Bool) → ((i j : ℕ) → 1 ≤ i → i ≤ t.segments → none_there i ≡ true → Allowed t i j → j ≡ 0)
      → (phase1 t leader (start t leader)).count ≤ sum t.segments (λ i. pick (none_there i) 0 t.strategies)
  phase1_fewer none_there barren = omega (arith, steps_le, potential_of t (start t leader) (start_allowed t leader fit.segments) none_there barren)

  -- at each step leaders are respected
  pub phase1_respects : LowerLeaders leader t.segments → respects leader t.segments (phase1 t leader (start t leader)).last ≡ true
  unfolding phase1
  phase1_respects lower =
      run_leads (step t leader) (t.segments * t.strategies) (start t leader) (λ s. respects leader t.segments s ≡ true) (step_respects t leader lower)
      (start_respects t leader lower)

  -- places past the segments hold nothing, where the table has no benefit there
  module _ (no_benefit : (i j : ℕ) → t.segments < i → t.benefit i j ≡ 0) where
    none_there : (i j : ℕ) → t.segments < i → Allowed t i j → j ≡ 0
    none_there i j past (inl e) = e
    none_there i j past (inr w) = absurd (omega (arith, no_benefit i j past))

    bests_past : PastNothing t (bests t)
    bests_past i l past = known (leb i most_segments) refl
      where
        known : (v : Bool) → leb i most_segments ≡ v → strategy_at (bests t) i ≡ 0
        known true e = bests_at t i l (leb-true i most_segments e) ∙ none_there i (top_candidate t i) past (top_allowed t i)
        known false e = get_or-eq_default (bests t) 0 (omega (arith, leb-false i most_segments e, (bests_allowed t fit.segments).places))

    start_past : PastNothing t (start t leader)
    unfolding start
    start_past = gives_past t (bests t) (pruned leader t.segments (bests t)) (pruned_gives leader t t.segments (bests t) (omega arith)) bests_past

    pub phase1_past : PastNothing t (phase1 t leader (start t leader)).last
    phase1_past = gives_past t (start t leader) (phase1 t leader (start t leader)).last phase1_gives start_past
