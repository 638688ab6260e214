-- `phase1::sum_in` meets its contract: the sum fits.
use Rattle.std.proofs.Common.{rules, ◌+◌, ◌^◌, arith}
use Rattle.std.proofs.lemmas.Iterator.{serves_from_Range}
use Rattle.base.proofs.Ranges.{range_fits, range_total}
use Rattle.tables.proofs.Arrays.{range_sum}
use Rattle.phase1.specs.Reduce.{held_share}
use Rattle.phase1.proofs.Pulls.{cell_held, sums_le}
use Rattle.phase1.proofs.sum_in.Goals as goal

pub sum-requires-clause-can : goal.sum-requires-clause-can
sum-requires-clause-can c =
    let p = c.requires in (
      tt,
      serves_from_Range (λ x q e. search rules) (λ x from under. let cell = cell_held p.summable x (search rules) in search rules),
    )

pub sum-requires-clause-fits : goal.sum-requires-clause-fits
sum-requires-clause-fits c =
    let p = c.requires in
    let n = c.args.z.segments in
    let each = held_share c.args.entries.now c.args.choice.now c.args.r in
    range_fits c.map.result (λ k. each (k + 1)) n (range_sum n each) c.map.ensures.source c.map.ensures.closure (λ x r q k. search rules) (2 ^ 64) (omega (arith, sums_le p.summable c.args.r p.le_r.0 p.le_r.1))

pub returns : goal.returns
returns c =
    let n = c.args.z.segments in
    let each = held_share c.args.entries.now c.args.choice.now c.args.r in
    range_total c.map.result (λ k. each (k + 1)) n (range_sum n each) c.map.ensures.source c.map.ensures.closure (λ x r q k. search rules) c.sum.result c.sum.ensures.ran
