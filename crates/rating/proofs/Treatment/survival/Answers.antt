-- `rating::Treatment::survival` meets its contract. The loss is at most 1,000 × 1,000 × 100.
use Prim.Native.Nat.{ℕ, zero, suc, ◌*◌, ◌-◌, ◌≤◌}
use mathlib.Core.Path.{◌≡◌, refl, ◌∙◌}
use native.Mathlib.Nat.{mul-le-mul}
use native.Mathlib.Omega.{arith}
use Rattle.base.proofs.Integers.{product_fits}
use Rattle.rules.specs.District.{District, traffic_of, environment_of, percent_of}
use Rattle.rules.specs.Rating.{survival}
use Rattle.rating.proofs.Places.{percent_is}
use Rattle.rating.proofs.Treatment.survival.Goals as goal
use Rattle.rating.proofs.Treatment.survival.Goals.{After-strategy_at, After-segment_at, After-segment_at-2}

traffic-le : (c : After-segment_at) → c.segment_at.result ≤ 1_000
unfolding traffic_of
traffic-le c = let s = c.args.self.now in rw c.segment_at.ensures (s.ranged.in_range.traffic _ s.segment_in.0 s.segment_in.1)

environment-le : (c : After-segment_at-2) → c.segment_at-2.result ≤ 1_000
unfolding environment_of
environment-le c = let s = c.args.self.now in rw c.segment_at-2.ensures (s.ranged.in_range.environment _ s.segment_in.0 s.segment_in.1)

percent-le : (c : After-strategy_at) → c.strategy_at.result ≤ 100
percent-le c =
    let s = c.args.self.now in
    let p = c.requires in
    rw (percent_is c.args.self.now.ranged.district.now c.args.k c.args.t c.row_place.ensures c.args.self.now.strategy c.strategy_at.ensures) (s.ranged.in_range.percent _ _ _ s.strategy_in.0 s.strategy_in.1 p.0.0 p.0.1 p.1.0 p.1.1)

-- from year 1 on
later : (d : District) (i j k t : ℕ) → 1 ≤ t → 1_000_000 - traffic_of d i * environment_of d i * (100 - percent_of d j k t) ≡ survival d i j k t
unfolding survival
later d i j k zero h = elim h [ ]
later d i j k (suc t) h = refl

by-loss : (c : After-strategy_at) →
    let s = c.args.self.now in
    1_000_000 - c.segment_at.result * c.segment_at-2.result * (100 - c.strategy_at.result) ≡ survival s.ranged.district.now s.segment s.strategy c.args.k c.args.t
unfolding traffic_of environment_of
by-loss c =
    rw (c.segment_at.ensures, c.segment_at-2.ensures, percent_is c.args.self.now.ranged.district.now c.args.k c.args.t c.row_place.ensures c.args.self.now.strategy c.strategy_at.ensures)
    (later _ _ _ _ _ c.requires.1.0)

pub overflow_mul-loss : goal.overflow_mul-loss
overflow_mul-loss c = product_fits _ _ 1_000 1_000 (traffic-le (goal.at.overflow_mul-loss c).After-segment_at) (environment-le (goal.at.overflow_mul-loss c).After-segment_at-2) tt

pub overflow_sub-loss : goal.overflow_sub-loss
overflow_sub-loss c = percent-le (goal.at.overflow_sub-loss c).After-strategy_at

pub overflow_mul-loss-2 : goal.overflow_mul-loss-2
overflow_mul-loss-2 c = product_fits _ _ (1_000 * 1_000) 100 (mul-le-mul {n₂ = 1_000} {m₂ = 1_000} (traffic-le (goal.at.overflow_mul-loss-2 c).After-segment_at) (environment-le (goal.at.overflow_mul-loss-2 c).After-segment_at-2)) (omega arith) tt

pub returns : goal.returns
returns c = c.saturating_sub.ensures ∙ by-loss (goal.at.returns c).After-strategy_at
