-- `rating::Treatment::first_ratings` meets its contract: the rating of a type is small.
use native.Mathlib.Omega.{arith}
use Rattle.std.proofs.Common.{rules}
use Rattle.rules.specs.District.{distresses_of}
use Rattle.rules.specs.Rating.{first_rating}
use Rattle.rating.proofs.Bounds.{rating_abs}
use Rattle.rating.proofs.Chains.{mapped_from_1}
use Rattle.rating.proofs.SignedSums.{signed_sum, signed_fits}
use Rattle.rating.proofs.Treatment.first_ratings.Goals as goal

pub sum-requires-clause-fits : goal.sum-requires-clause-fits
unfolding first_rating
sum-requires-clause-fits c =
    let s = c.args.self.now in
    let d = s.ranged.district.now in
    let few = s.ranged.in_range.distresses in
    let each = first_rating d s.segment s.strategy in
    signed_fits c.map.result (distresses_of d) 100_000_000 each (mapped_from_1 _ c.distresses.ensures each c.map.ensures.source c.map.ensures.closure (λ x r q k. search rules))
    (λ k a b. rating_abs d s.ranged.in_range _ _ k 1 s.segment_in s.strategy_in (a, omega arith)) (omega arith)

pub returns : goal.returns
unfolding first_rating
returns c =
    let s = c.args.self.now in
    let d = s.ranged.district.now in
    let few = s.ranged.in_range.distresses in
    let each = first_rating d s.segment s.strategy in
    signed_sum c.map.result (distresses_of d) 100_000_000 each (mapped_from_1 _ c.distresses.ensures each c.map.ensures.source c.map.ensures.closure (λ x r q k. search rules))
    (λ k a b. rating_abs d s.ranged.in_range _ _ k 1 s.segment_in s.strategy_in (a, omega arith)) (omega arith) c.sum.result c.sum.ensures.ran
