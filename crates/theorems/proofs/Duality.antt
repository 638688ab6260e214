-- At any prices the ceiling is at least the total of every programme within the limits: what a strategy's benefit is beyond its cost is in its
-- segment's margin, and the costs of what fits the limits are at most those of the whole limits.
use Prim.Native.Nat.{ℕ, zero, suc, ◌+◌, ◌*◌, ◌/◌, ◌≤◌}
use mathlib.Core.Path.{ap, ◌∙◌}
use mathlib.Core.List.{List}
use mathlib.Core.Logic.{⊎_elim}
use native.Mathlib.Nat.{mul_comm, mul-le-mul_left, mul-le-mul_right, le_trans, le_of_eq, div-zero, div-mul-le_self, le_of_mul-le-mul_right, eq-zero-or-pos}
use native.Mathlib.Omega.{arith}
use Rattle.base.specs.Over.{sum}
use Rattle.base.proofs.Sums.{sum_le, sum_add, sum_swap, sum_mul, sum_mul_right, sum_bound, most_part}
use Rattle.rules.specs.Table.{Table}
use Rattle.rules.specs.Ceiling.{price_at, down_share, cost_by, cost, net, margin, ceiling_at, ceiling, prices_after}
use Rattle.laws.specs.Tables.{FitAlone}
use Rattle.theorems.specs.Rivals.{total_by, Rival}

-- shares rounded down of uses within a limit sum to at most 10,000, also where the limit is 0
shares_fit : (n limit : ℕ) (u : ℕ → ℕ) → sum n u ≤ limit → sum n (λ i. u i * 10_000 / limit) ≤ 10_000
shares_fit n limit u h =
    ⊎_elim
    (λ z. le_trans (sum_bound n 0 _ (λ i _ _. le_of_eq (ap (λ (x : ℕ). u i * 10_000 / x) z ∙ div-zero (u i * 10_000)))) (omega arith))
    (λ some-limit.
    le_of_mul-le-mul_right
    (rw (← sum_mul_right n limit (λ i. u i * 10_000 / limit))
    (le_trans (sum_le n _ (λ i. u i * 10_000) (λ i _ _. div-mul-le_self (u i * 10_000) limit)) (rw (sum_mul_right n 10_000 u) (omega (arith, mul-le-mul_right 10_000 h)))))
    some-limit)
    (eq-zero-or-pos limit)

module _ (t : Table) (fit : FitAlone t) (c : ℕ → ℕ) (rival : Rival t c) (prices : List ℕ) where
  -- a benefit is covered by its cost and the segment's margin
  covered : (i j : ℕ) → 1 ≤ i → i ≤ t.segments → j ≤ t.strategies → t.benefit i j ≤ cost t prices i j + margin t prices i
  unfolding margin net
  covered i zero l h s = omega (arith, fit.nothing_worth i l h)
  covered i (suc j) l h s = omega (arith, most_part t.strategies (net t prices i) (suc j) (omega arith) s)

  -- all costs together
  costs_le : sum t.segments (λ i. cost t prices i (c i)) ≤ 10_000 * sum t.resources (price_at prices)
  unfolding cost cost_by down_share
  costs_le =
      rw (sum_swap t.segments t.resources (λ i r. price_at prices r * (t.usage i (c i) r * 10_000 / t.limit r)), ← sum_mul t.resources 10_000 (price_at prices))
      (sum_le t.resources _ _ (λ r l h.
      rw (sum_mul t.segments (price_at prices r) (λ i. t.usage i (c i) r * 10_000 / t.limit r), mul_comm 10_000 (price_at prices r))
      (mul-le-mul_left (price_at prices r) (shares_fit t.segments (t.limit r) (λ i. t.usage i (c i) r) (rival.within r l h)))))

  duality : total_by t c ≤ ceiling_at t prices
  unfolding ceiling_at
  duality =
      omega (
        arith,
        sum_le t.segments (λ i. t.benefit i (c i)) (λ i. cost t prices i (c i) + margin t prices i) (λ i l h. covered i (c i) l h (rival.numbers i l h)),
        sum_add t.segments (λ i. cost t prices i (c i)) (margin t prices),
        costs_le,
      )

pub ceiling_bounds : (t : Table) → FitAlone t → (c : ℕ → ℕ) → Rival t c → total_by t c ≤ ceiling t
unfolding ceiling
ceiling_bounds t fit c rival = duality t fit c rival (prices_after t 41)
