-- A district without segments has the programme with nothing in it, so an office that gets new tables need not be planned.
use Prim.Native.Nat.{ℕ, zero, suc, ◌+◌, ◌-◌, ◌*◌, ◌^◌}
use mathlib.Core.Path.{◌≡◌, refl, ap, ◌∙◌}
use mathlib.Core.Bool.{false, and-false}
use mathlib.Core.List.{List, ◌∷◌}
use Rattle.std.specs.Prelude.{Option}
use native.Mathlib.Nat.{zero-mul}
use native.Mathlib.Omega.{arith}
use borrow.Author.Tests.{le-ltb, lt-leb}
use lib.Dec.{leb}
use lib.ListN.{replicate}
use Rattle.base.specs.Over.{sum, listed_from, between}
use Rattle.base.specs.Search.{Run, run}
use Rattle.std.proofs.lemmas.Bool.{and_right}
use Rattle.base.proofs.Choice.{pick_all}
use Rattle.base.proofs.Best.{best_ind}
use Rattle.base.proofs.Each.{each_replicate}
use Rattle.base.proofs.Listed.{listed_cong}
use Rattle.base.proofs.Sums.{sum_cong, sum_zero}
use Rattle.rules.specs.District.{District, most_segments, most_resources, segments_of, leader_of, shared_tables}
use Rattle.rules.specs.File.{in_range}
use Rattle.rules.specs.Table.{Table, candidate_benefit, table_of}
use Rattle.rules.specs.Phases.{is_candidate, chosen_benefit, total, pruned, top_candidate, bests, start, step, phase1, pick_up, phase2, change, phase3}
use Rattle.rules.specs.Ceiling.{price_at, raised, lowered, margin, ceiling_at, lowers, priced, priced_all, prices_after, ceiling}
use Rattle.rules.specs.Plan.{reduced, filled, improved, programme_from, programme_of, no_programme}
use Rattle.rules.specs.Blocks.{plan_by}
use Rattle.rules.specs.declared.Choice.{Choice}
use Rattle.rules.specs.declared.Programme.{Programme}
use Rattle.laws.proofs.Blocks.{plan_ordinary, empty_followed}
use Rattle.demands.proofs.stations.Calls.{no_segments_lem}

abbrev nothing : List ℕ
nothing = replicate most_segments 0

abbrev none_made : Run (List ℕ)
none_made = record { last = nothing; count = 0 }

abbrev free : List ℕ
free = replicate most_resources 0

zeros : (n m : ℕ) → listed_from {A = ℕ} n m (λ _. 0) ≡ replicate n 0
unfolding listed_from
zeros zero m = refl
zeros (suc n) m = ap (λ (l : List ℕ). 0 ∷ l) (zeros n (suc m))

-- ---- a table without segments, and so without candidates

module _ (t : Table) (leader : ℕ → ℕ) (empty : t.segments ≡ 0) (None : (i j : ℕ) → t.benefit i j ≡ 0) where
  total_none : (c : List ℕ) → total t c ≡ 0
  unfolding total sum
  total_none c = ap (λ (n : ℕ). sum n (chosen_benefit t c)) empty

  top_none : (i : ℕ) → top_candidate t i ≡ 0
  unfolding top_candidate is_candidate
  top_none i = best_ind _ _ (λ b. b ≡ 0) t.strategies refl (λ k l h e. cc (None i k))

  bests_none : bests t ≡ nothing
  unfolding bests
  bests_none = listed_cong most_segments 1 1 (top_candidate t) (λ _. 0) (λ x l. top_none (1 + x)) ∙ zeros most_segments 1

  start_none : start t leader ≡ nothing
  unfolding start pruned
  start_none = ap (λ (n : ℕ). pruned leader n (bests t)) empty ∙ bests_none

  -- each phase stops at once
  stops : (next : List ℕ → Option (List ℕ)) (bound : ℕ) (c : List ℕ) → bound ≡ 0 → c ≡ nothing → run next bound c ≡ none_made
  unfolding run
  stops next bound c e f = rw (e, f)

  reduced_none : reduced t leader ≡ none_made
  unfolding reduced phase1
  reduced_none = stops (step t leader) (t.segments * t.strategies) (start t leader) (ap (λ (n : ℕ). n * t.strategies) empty ∙ zero-mul t.strategies) start_none

  filled_none : filled t leader none_made ≡ none_made
  unfolding filled phase2
  filled_none = stops (pick_up t leader) t.segments nothing empty refl

  improved_none : improved t leader none_made ≡ none_made
  unfolding improved phase3
  improved_none = stops (change t leader) (total t (bests t)) (filled t leader none_made).last (total_none (bests t)) (ap (λ (r : Run (List ℕ)). r.last) filled_none)

  -- ---- at prices of 0 the ceiling is 0, and none is lower

  at_free : ceiling_at t free ≡ 0
  unfolding ceiling_at sum
  at_free =
      let p : sum t.resources (price_at free) ≡ 0 = sum_cong t.resources (price_at free) (λ _. 0) (λ r l h. each_replicate (λ (x : ℕ). x ≡ 0) 0 most_resources 0 refl refl (r - 1)) ∙ sum_zero t.resources in
      let m : sum t.segments (margin t free) ≡ 0 = ap (λ (n : ℕ). sum n (margin t free)) empty in
      omega arith

  none_lower : (prices new : List ℕ) → ceiling_at t prices ≡ 0 → lowers t prices new ≡ false
  none_lower prices new e = le-ltb (ceiling_at t new) (ceiling_at t prices) (omega arith)

  priced_none : (s : ℕ) (prices : List ℕ) (r : ℕ) → ceiling_at t prices ≡ 0 → priced t s prices r ≡ prices
  unfolding priced
  priced_none s prices r e = rw (none_lower prices (raised prices r s) e, none_lower prices (lowered prices r s) e, and-false)

  all_priced : (s n : ℕ) (prices : List ℕ) → ceiling_at t prices ≡ 0 → priced_all t s n prices ≡ prices
  unfolding priced_all
  all_priced s zero prices e = refl
  all_priced s (suc n) prices e = ap (λ (p : List ℕ). priced t s p (suc n)) (all_priced s n prices e) ∙ priced_none s prices (suc n) e

  stay_free : (n : ℕ) → prices_after t n ≡ free
  unfolding prices_after
  stay_free zero = refl
  stay_free (suc n) = ap (λ (p : List ℕ). priced_all t (2 ^ (40 - n)) t.resources p) (stay_free n) ∙ all_priced (2 ^ (40 - n)) t.resources free at_free

  ceiling_none : ceiling t ≡ 0
  unfolding ceiling
  ceiling_none = ap (ceiling_at t) (stay_free 41) ∙ at_free

  programme_none : programme_of t leader ≡ no_programme
  unfolding programme_of programme_from no_programme
  programme_none = rw (reduced_none, total_none (improved t leader none_made).last, total_none (filled t leader none_made).last, ceiling_none, filled_none, improved_none)

-- ---- a district without segments

none_there : (d : District) → segments_of d ≡ 0 → (i : ℕ) → between 1 (segments_of d) i ≡ false
none_there d e zero = refl
none_there d e (suc i) = and_right (leb 1 (suc i)) (leb (suc i) (segments_of d)) (lt-leb (suc i) (segments_of d) (omega arith))

no_benefit : (d : District) → segments_of d ≡ 0 → (i j : ℕ) → candidate_benefit d i j ≡ 0
unfolding candidate_benefit
no_benefit d e i j = rw (none_there d e i)

-- whatever blocks are chosen
pub unplanned : (x : Choice) (d : District) → segments_of d ≡ 0 → plan_by x d ≡ no_programme
unfolding table_of
unplanned x d e =
    plan_ordinary x d (empty_followed x d e)
    ∙ pick_all (λ (p : Programme). p ≡ no_programme) (in_range d) (programme_of (table_of d) (leader_of d)) no_programme
    (programme_none (table_of d) (leader_of d) e (no_benefit d e))
    refl

-- as the shared tables alone are
pub tables_unplanned : (x : Choice) (d : District) → plan_by x (shared_tables d) ≡ no_programme
tables_unplanned x d = unplanned x (shared_tables d) (no_segments_lem d)
