-- `ceiling::ceiling_of` meets its contract.
use Prim.Native.Nat.{◌+◌, ◌-◌}
use mathlib.Core.Path.{◌≡◌, refl, ap, ◌∙◌}
use native.Mathlib.Omega.{arith}
use Rattle.rules.specs.Ceiling.{ceiling_at, ceiling}
use Rattle.ceiling.proofs.Same.{same_ceiling}
use Rattle.ceiling.proofs.Rounds.{free_prices, free_costs, after_none, after_next, after_room}
use Rattle.ceiling.proofs.ceiling_of.Goals as goal

pub invariant_of-search : goal.invariant_of-search
invariant_of-search c = record { fit = free_prices; standing = record { costs = free_costs _ _ _; value = c.free_ceiling.ensures } }

pub loop-k-init : goal.loop-k-init
loop-k-init c = (refl, after_none _)

pub price_all-requires : goal.price_all-requires
price_all-requires c =
    let k = c.loop-k.k in
    let e : k - 1 ≡ 40 - (41 - k) = omega arith in
    after_room _ (41 - k) c.loop-k.invariant.1 (rw e at c.pow.ensures) (omega arith)

pub loop-k-preserved : goal.loop-k-preserved
loop-k-preserved c =
    let l = c.loop-k in
    let new = c.price_all.ensures in
    let e : l.k - 1 ≡ 40 - (41 - l.k) = omega arith in
    let n : 41 - l.k + 1 ≡ 41 - (l.k - 1) = omega arith in
    (new.same_table ∙ l.invariant.0, rw n at (after_next _ (41 - l.k) l.invariant.1 (rw e at c.pow.ensures) (rw l.invariant.0 at new.prices_after)))

pub returns : goal.returns
unfolding ceiling
returns c =
    λ t priced.
    let l = c.loop-k in
    let e : l.k ≡ 0 = omega arith in
    rw l.invariant.0 at l.search.standing.value ∙ ap (ceiling_at _) (l.invariant.1 ∙ rw e) ∙ same_ceiling priced
