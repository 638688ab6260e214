-- `payload` meets its contract: the widths of the numbers in their order.
use Rattle.std.proofs.Common.{◌^◌, arith, rules}
use Rattle.base.proofs.Ranges.{range_fits, range_total}
use Rattle.grammar.specs.Slots.{numbered_in}
use Rattle.file.proofs.Steps.{width, widths_listed, widths_small}
use Rattle.file.proofs.numbered.payload.Goals as goal

pub sum-requires-clause-fits : goal.sum-requires-clause-fits
sum-requires-clause-fits c =
    let d = c.args.d.now in
    let s = numbered_in c.args.slot in
    let n = c.args.slot.places in
    range_fits c.map.result (width d s) n (widths_listed d s n 0) c.map.ensures.source c.map.ensures.closure (λ x r q k. search rules) (2 ^ 64) (omega (arith, widths_small n d s 0))

pub returns : goal.returns
returns c =
    let d = c.args.d.now in
    let s = numbered_in c.args.slot in
    let n = c.args.slot.places in
    range_total c.map.result (width d s) n (widths_listed d s n 0) c.map.ensures.source c.map.ensures.closure (λ x r q k. search rules) c.sum.result c.sum.ensures.ran
