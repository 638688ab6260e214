-- The list in which a block's phases end, where its parts are within the limits: it has candidates of the whole district, in the block alone, with
-- the same benefits and uses.
use Prim.Native.Nat.{ℕ, ◌*◌, ◌≤◌, ◌<◌}
use mathlib.Core.Path.{◌≡◌, refl, sym, subst, fun_ext, ◌∙◌}
use mathlib.Core.Bool.{true, false, not, true≢false}
use mathlib.Core.List.{List}
use mathlib.Core.Logic.{inl, inr, ⊎_elim}
use native.Mathlib.Omega.{arith}
use borrow.Author.Tests.{leb-true, not-true}
use Rattle.std.proofs.lemmas.Bool.{cases_lt}
use Rattle.base.specs.Choice.{pick}
use Rattle.base.specs.Over.{sum}
use Rattle.base.proofs.All.{all_at}
use Rattle.base.proofs.Sums.{sum_cong}
use Rattle.rules.specs.District.{District, segments_of, strategies_of, resources_of, limit_of, leader_of}
use Rattle.rules.specs.Rating.{scaled_limit}
use Rattle.rules.specs.Table.{candidate_benefit, table_of}
use Rattle.rules.specs.Phases.{strategy_at, chosen_benefit, total, chosen_usage, used, holds, within, heeds, respects}
use Rattle.rules.specs.Demands.{Finished}
use Rattle.rules.specs.Blocks.{part_of, in_block, block_district, block_table, block_reduced, block_list, block_steps, block_total}
use Rattle.rules.specs.declared.Choice.{Choice}
use Rattle.laws.specs.Counts.{Few}
use Rattle.laws.specs.Tables.{FitAlone, Allowed, OfCandidates}
use Rattle.laws.proofs.Leaders.{LowerLeaders}
use Rattle.theorems.proofs.Entries.{nothing_is, past_is, limit_is, table_fit}
use Rattle.theorems.proofs.Alike.{leader_same}
use Rattle.theorems.proofs.BlockTables.{alike, same_segments, same_strategies, same_resources, block_limit, block_usage, inside, block_benefit}
use Rattle.theorems.proofs.Programmes.{Begins, reduced_begins}
use Rattle.theorems.proofs.Programmes as programmes

module _ (x : Choice) (d : District) (few : Few d) (b : ℕ) where
  abbrev e : District
  e = block_district x d b

  abbrev c : List ℕ
  c = block_list x d b

  -- ---- its phases by themselves

  block_fit : FitAlone (block_table x d b)
  unfolding block_table
  block_fit = table_fit e (omega (arith, same_segments x d few b, few.segments))

  block_begins : Begins (block_table x d b) (leader_of e) (block_reduced x d b)
  unfolding block_reduced
  block_begins = reduced_begins (block_table x d b) (leader_of e) block_fit

  pub block_finished : Finished (block_table x d b) (leader_of e) (block_reduced x d b)
  block_finished = programmes.finished (block_table x d b) (leader_of e) block_fit (block_reduced x d b) block_begins

  pub list_candidates : OfCandidates (block_table x d b) c
  unfolding block_list block_reduced
  list_candidates = programmes.improved_candidates (block_table x d b) (leader_of e) block_fit (block_reduced x d b) block_begins

  list_within : within (block_table x d b) c ≡ true
  unfolding block_list block_reduced
  list_within = programmes.improved_within (block_table x d b) (leader_of e) block_fit (block_reduced x d b) block_begins

  list_respects : LowerLeaders (leader_of e) (segments_of e) → respects (leader_of e) (segments_of e) c ≡ true
  unfolding block_list block_reduced block_table table_of
  list_respects = programmes.improved_respects (block_table x d b) (leader_of e) block_fit (block_reduced x d b) block_begins

  -- leaders are respected in it
  pub list_heeds : LowerLeaders (leader_of d) (segments_of d) → (i : ℕ) → 1 ≤ i → i ≤ segments_of d → heeds (leader_of d) (strategy_at c) i ≡ true
  unfolding respects
  list_heeds lower i l h =
      let same : leader_of e ≡ leader_of d = fun_ext (leader_same d e (alike x d few b)) in
      let n = same_segments x d few b in
      rw same at
      (all_at (segments_of e) (heeds (leader_of e) (strategy_at c)) (list_respects (λ k lk hk. rw same (lower k lk (omega arith)))) i l (omega arith))

  -- places past the segments hold nothing
  list_past : (i : ℕ) → 1 ≤ i → segments_of d < i → strategy_at c i ≡ 0
  unfolding block_list block_reduced block_table table_of
  list_past i l past =
      programmes.improved_past (block_table x d b) (leader_of e) block_fit (block_reduced x d b) block_begins (past_is e) i l (omega (arith, same_segments x d few b))

  -- ---- beside the whole district

  module _ (fits : (r : ℕ) → 1 ≤ r → r ≤ resources_of d → part_of x d b r ≤ limit_of d r) where
    -- what is allowed there is nothing, or a candidate of the district in the block
    module _ (P : ℕ → Type 0) (i : ℕ) (l : 1 ≤ i) (h : i ≤ segments_of d) (none : P 0)
        (some :
        (j : ℕ) → 1 ≤ j → j ≤ strategies_of d → in_block x d b i ≡ true → 1 ≤ candidate_benefit d i j → candidate_benefit d i j ≡ candidate_benefit e i j
        → P j) where
      by_candidate : (j : ℕ) → Allowed (table_of e) i j → P j
      unfolding table_of
      by_candidate j (inl z) = subst P (sym z) none
      by_candidate j (inr w) =
          let hj : j ≤ strategies_of d = omega (arith, w.1, same_strategies x d few b) in
          let same = block_benefit x d few b fits i j l h w.0 hj w.2 in
          some j w.0 hj (inside x d few b fits i j l h w.0 hj w.2) (rw same w.2) same

      list_by : P (strategy_at c i)
      unfolding block_table table_of
      list_by = by_candidate (strategy_at c i) (list_candidates.each i l (omega (arith, same_segments x d few b)))

    pub list_allowed : (i : ℕ) → 1 ≤ i → i ≤ segments_of d → Allowed (table_of d) i (strategy_at c i)
    unfolding table_of
    list_allowed i l h = list_by (Allowed (table_of d) i) i l h (inl refl) (λ j lj hj here worth same. inr (lj, hj, worth))

    -- outside the block it has nothing
    pub list_none : (i : ℕ) → 1 ≤ i → in_block x d b i ≡ false → strategy_at c i ≡ 0
    list_none i l out =
        ⊎_elim (list_past i l)
        (λ h. list_by (λ j. j ≡ 0) i l h refl (λ j lj hj here worth same. absurd (true≢false (sym here ∙ out))))
        (cases_lt (segments_of d) i)

    -- its total and its uses, by the table of the district
    pub list_total : sum (segments_of d) (λ i. candidate_benefit d i (strategy_at c i)) ≡ block_total x d b
    unfolding block_total block_table total chosen_benefit table_of
    list_total =
        rw (same_segments x d few b)
        (sum_cong (segments_of d) (λ i. candidate_benefit d i (strategy_at c i)) (λ i. candidate_benefit e i (strategy_at c i))
        (λ i l h.
        list_by (λ j. candidate_benefit d i j ≡ candidate_benefit e i j) i l h
        (nothing_is d i l h ∙ sym (nothing_is e i l (omega (arith, same_segments x d few b))))
        (λ j lj hj here worth same. same)))

    pub list_used : (r : ℕ) → 1 ≤ r → r ≤ resources_of d → sum (segments_of d) (λ i. (table_of d).usage i (strategy_at c i) r) ≤ part_of x d b r * 100_000
    unfolding block_table used chosen_usage within holds scaled_limit table_of
    list_used r lr hr =
        let there : r ≤ resources_of e = omega (arith, same_resources x d few b) in
        let number : (i : ℕ) → 1 ≤ i → i ≤ segments_of d → strategy_at c i ≤ strategies_of d =
        λ i l h. list_by (λ j. j ≤ strategies_of d) i l h (omega arith) (λ j lj hj here worth same. hj) in
        let same : sum (segments_of d) (λ i. (table_of d).usage i (strategy_at c i) r) ≡ sum (segments_of e) (λ i. (table_of e).usage i (strategy_at c i) r) =
        rw (same_segments x d few b)
        (sum_cong (segments_of d) (λ i. (table_of d).usage i (strategy_at c i) r) (λ i. (table_of e).usage i (strategy_at c i) r)
        (λ i l h. block_usage x d few b i (strategy_at c i) r l h (number i l h) lr hr)) in
        omega (
          arith,
          leb-true (sum (segments_of e) (λ i. (table_of e).usage i (strategy_at c i) r)) ((table_of e).limit r)
              (all_at (resources_of e) (holds (block_table x d b) c) list_within r lr there),
          limit_is e r lr there,
          block_limit x d few b r lr hr,
          same,
        )

    -- phase 1 makes no step for a segment outside
    pub block_steps_le : block_steps x d b ≤ sum (segments_of d) (λ i. pick (not (in_block x d b i)) 0 (strategies_of d))
    unfolding block_steps block_reduced block_table table_of
    block_steps_le =
        rw (← same_segments x d few b, ← same_strategies x d few b)
        (programmes.fewer_steps (table_of e) (leader_of e) block_fit (λ i. not (in_block x d b i))
        (λ i j l h out allowed.
        by_candidate (λ k. k ≡ 0) i l (omega (arith, same_segments x d few b)) refl
        (λ k lk hk here worth same. absurd (true≢false (sym here ∙ not-true (in_block x d b i) out))) j allowed))
