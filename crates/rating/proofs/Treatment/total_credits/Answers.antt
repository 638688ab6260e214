-- `rating::Treatment::total_credits` meets its contract: the credits of a type are small.
use native.Mathlib.Omega.{arith}
use Rattle.std.proofs.Common.{rules}
use Rattle.rules.specs.District.{distresses_of}
use Rattle.rules.specs.Rating.{credits}
use Rattle.rating.proofs.Bounds.{credits_abs}
use Rattle.rating.proofs.Chains.{mapped_from_1}
use Rattle.rating.proofs.SignedSums.{signed_sum, signed_fits}
use Rattle.rating.proofs.Treatment.total_credits.Goals as goal

pub sum-requires-clause-fits : goal.sum-requires-clause-fits
sum-requires-clause-fits c =
    let s = c.args.self.now in
    let d = s.ranged.district.now in
    let few = s.ranged.in_range.distresses in
    let each = credits d s.segment s.strategy in
    signed_fits c.map.result (distresses_of d) 1_000_000_000 each (mapped_from_1 _ c.distresses.ensures each c.map.ensures.source c.map.ensures.closure (λ x r q k. search rules))
    (λ k a b. credits_abs d s.ranged.in_range _ _ k s.segment_in s.strategy_in (a, omega arith)) (omega arith)

pub returns : goal.returns
returns c =
    let s = c.args.self.now in
    let d = s.ranged.district.now in
    let few = s.ranged.in_range.distresses in
    let each = credits d s.segment s.strategy in
    signed_sum c.map.result (distresses_of d) 1_000_000_000 each (mapped_from_1 _ c.distresses.ensures each c.map.ensures.source c.map.ensures.closure (λ x r q k. search rules))
    (λ k a b. credits_abs d s.ranged.in_range _ _ k s.segment_in s.strategy_in (a, omega arith)) (omega arith) c.sum.result c.sum.ensures.ran
