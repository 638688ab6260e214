-- `ceiling::Candidates::free_ceiling` meets its contract.
use Rattle.std.proofs.Common.{rules, ◌+◌, ◌^◌, arith}
use Rattle.base.proofs.Ranges.{range_fits, range_total}
use Rattle.rules.specs.Ceiling.{margin}
use Rattle.ceiling.specs.Prices.{free}
use Rattle.ceiling.specs.Views.{priced_in}
use Rattle.tables.proofs.Arrays.{range_sum}
use Rattle.ceiling.proofs.Costs.{margins_small}
use Rattle.ceiling.proofs.Rounds.{free_ceiling_is}
use Rattle.ceiling.proofs.candidates.Candidates.free_ceiling.Goals as goal

pub sum-requires-clause-fits : goal.sum-requires-clause-fits
sum-requires-clause-fits c =
    let t = c.args.self in
    let n = t.size.segments in
    let each = margin (priced_in t) free in
    range_fits c.map.result (λ k. each (k + 1)) n (range_sum n each) c.map.ensures.source c.map.ensures.closure (λ x r q k. search rules) (2 ^ 64) (omega (arith, margins_small t.sized free n, t.sized.segments))

pub returns : goal.returns
returns c =
    let t = c.args.self in
    let n = t.size.segments in
    let each = margin (priced_in t) free in
    free_ceiling_is _ _ _ (range_total c.map.result (λ k. each (k + 1)) n (range_sum n each) c.map.ensures.source c.map.ensures.closure (λ x r q k. search rules) c.sum.result c.sum.ensures.ran)
