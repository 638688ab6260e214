-- The ceiling depends on a table's sizes, benefits and down-shares alone.
use Prim.Native.Nat.{ℕ, zero, suc, ◌-◌, ◌^◌, ◌≤◌}
use mathlib.Core.Path.{◌≡◌, refl, ap, ◌∙◌}
use mathlib.Core.List.{List}
use Rattle.base.proofs.Sums.{sum_cong, most_cong}
use Rattle.rules.specs.Table.{Table}
use Rattle.rules.specs.Ceiling.{cost_by, cost, net, margin, ceiling_at, priced, priced_all, prices_after, ceiling}
use Rattle.tables.specs.declared.Size.{Size}
use Rattle.ceiling.specs.Prices.{In, Priced, priced_table}
use Rattle.ceiling.proofs.Costs.{share_is}

module _ {z : Size} {b d : List ℕ} {t : Table} (h : Priced t z b d) where
  same_cost : (p : List ℕ) (i j : ℕ) → In z i j → cost (priced_table z b d) p i j ≡ cost t p i j
  unfolding cost cost_by
  same_cost p i j inside =
      sum_cong z.resources (cost_by (priced_table z b d) p i j) (cost_by t p i j) (λ r l u. rw (share_is z b d i j r, h.shares i j r inside l u))
      ∙ rw h.resources

  same_margin : (p : List ℕ) (i : ℕ) → 1 ≤ i → i ≤ z.segments → margin (priced_table z b d) p i ≡ margin t p i
  unfolding margin net
  same_margin p i l u =
      most_cong z.strategies (net (priced_table z b d) p i) (net t p i)
      (λ j lj uj.
      let inside : In z i j = record { segment_from = l; segment_to = u; strategy_from = lj; strategy_to = uj } in
      rw (same_cost p i j inside, h.benefits i j inside))
      ∙ rw h.strategies

  same_at : (p : List ℕ) → ceiling_at (priced_table z b d) p ≡ ceiling_at t p
  unfolding ceiling_at
  same_at p = rw (sum_cong z.segments (margin (priced_table z b d) p) (margin t p) (same_margin p), h.resources, h.segments)

  same_priced : (s : ℕ) (p : List ℕ) (r : ℕ) → priced (priced_table z b d) s p r ≡ priced t s p r
  unfolding priced
  same_priced s p r = simp same_at

  same_all : (s n : ℕ) (p : List ℕ) → priced_all (priced_table z b d) s n p ≡ priced_all t s n p
  unfolding priced_all
  same_all s zero p = refl
  same_all s (suc n) p = same_priced s (priced_all (priced_table z b d) s n p) (suc n) ∙ ap (λ (q : List ℕ). priced t s q (suc n)) (same_all s n p)

  same_after : (n : ℕ) → prices_after (priced_table z b d) n ≡ prices_after t n
  unfolding prices_after
  same_after zero = refl
  same_after (suc n) = same_all (2 ^ (40 - n)) z.resources (prices_after (priced_table z b d) n) ∙ rw (same_after n, h.resources)

  pub same_ceiling : ceiling (priced_table z b d) ≡ ceiling t
  unfolding ceiling
  same_ceiling = same_at (prices_after (priced_table z b d) 41) ∙ ap (ceiling_at t) (same_after 41)
