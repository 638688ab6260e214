-- The search of prices never raises the ceiling, so it is at most the one at prices of 0, and that is at most the total of the best candidates.
use Prim.Native.Nat.{ℕ, zero, suc, ◌-◌, ◌^◌, ◌≤◌}
use mathlib.Core.Path.{ap}
use mathlib.Core.Bool.{◌&&◌}
use mathlib.Core.List.{List}
use native.Mathlib.Nat.{le_refl, le_trans, le_of_lt}
use native.Mathlib.Omega.{arith}
use borrow.Author.Tests.{ltb-true}
use lib.Dec.{leb}
use lib.ListN.{replicate}
use Rattle.std.proofs.lemmas.Bool.{and_parts}
use Rattle.base.proofs.Choice.{pick_by}
use Rattle.base.proofs.Each.{each_replicate}
use Rattle.base.proofs.Sums.{sum_le, sum_bound, most_bound}
use Rattle.rules.specs.District.{most_resources}
use Rattle.rules.specs.Table.{Table}
use Rattle.rules.specs.Phases.{chosen_benefit, total, top_candidate, bests}
use Rattle.rules.specs.Ceiling.{price_at, raised, lowered, net, margin, ceiling_at, lowers, priced, priced_all, prices_after, ceiling}
use Rattle.laws.specs.Tables.{FitAlone}
use Rattle.laws.proofs.Changes.{top_most}
use Rattle.laws.proofs.Steps.{bests_at}

module _ (t : Table) where
  -- ---- other prices are taken only where they lower the ceiling

  priced_falls : (s : ℕ) (p : List ℕ) (r : ℕ) → ceiling_at t (priced t s p r) ≤ ceiling_at t p
  unfolding priced
  priced_falls s p r =
      pick_by (λ q. ceiling_at t q ≤ ceiling_at t p) (lowers t p (raised p r s)) (raised p r s) _
      (λ e. le_of_lt (ltb-true _ _ e))
      (pick_by (λ q. ceiling_at t q ≤ ceiling_at t p) (leb s (price_at p r) && lowers t p (lowered p r s)) (lowered p r s) p
      (λ e. le_of_lt (ltb-true _ _ (and_parts (leb s (price_at p r)) (lowers t p (lowered p r s)) e).1))
      (le_refl (ceiling_at t p)))

  all_falls : (s n : ℕ) (p : List ℕ) → ceiling_at t (priced_all t s n p) ≤ ceiling_at t p
  unfolding priced_all
  all_falls s zero p = le_refl (ceiling_at t p)
  all_falls s (suc n) p = le_trans (priced_falls s (priced_all t s n p) (suc n)) (all_falls s n p)

  after_falls : (n : ℕ) → ceiling_at t (prices_after t n) ≤ ceiling_at t (replicate most_resources 0)
  unfolding prices_after
  after_falls zero = le_refl (ceiling_at t (replicate most_resources 0))
  after_falls (suc n) = le_trans (all_falls (2 ^ (40 - n)) t.resources (prices_after t n)) (after_falls n)

  -- ---- at prices of 0

  free : (r : ℕ) → price_at (replicate most_resources 0) r ≤ 0
  free r = each_replicate (λ n. n ≤ 0) 0 most_resources 0 (omega arith) (omega arith) (r - 1)

  module _ (fit : FitAlone t) where
    -- at any prices a margin is at most the benefit of the best candidate
    margin_le : (p : List ℕ) (i : ℕ) → 1 ≤ i → i ≤ t.segments → margin t p i ≤ chosen_benefit t (bests t) i
    unfolding margin net chosen_benefit
    margin_le p i l h =
        let top = ap (t.benefit i) (bests_at t i l (omega (arith, fit.segments))) in
        let most-left = most_bound t.strategies (t.benefit i (top_candidate t i)) (net t p i)
        (λ j lj hj. omega (arith, top_most t fit.segments fit.nothing_worth i j l h hj)) in
        omega arith

    free_le : ceiling_at t (replicate most_resources 0) ≤ total t (bests t)
    unfolding ceiling_at total
    free_le =
        omega (
          arith,
          sum_bound t.resources 0 (price_at (replicate most_resources 0)) (λ r l h. free r),
          sum_le t.segments (margin t (replicate most_resources 0)) (chosen_benefit t (bests t)) (margin_le (replicate most_resources 0)),
        )

    pub ceiling_le : ceiling t ≤ total t (bests t)
    unfolding ceiling
    ceiling_le = le_trans (after_falls 41) free_le
