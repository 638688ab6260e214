-- `file_length` meets its contract: the lengths of the records in their order.
use Rattle.std.proofs.Common.{◌^◌, arith, rules}
use Rattle.base.proofs.Ranges.{range_fits, range_total}
use Rattle.rules.specs.File.{encode_as}
use Rattle.rules.specs.Format.{file_records}
use Rattle.file.proofs.Steps.{long, records_listed, length_records, total_small}
use Rattle.file.proofs.numbered.file_length.Goals as goal

pub sum-requires-clause-fits : goal.sum-requires-clause-fits
sum-requires-clause-fits c =
    let d = c.args.d.now in
    let form = c.args.form in
    range_fits c.map.result (long form d) file_records (records_listed form d file_records 0) c.map.ensures.source c.map.ensures.closure (λ x r q k. search rules) (2 ^ 64)
    (omega (arith, length_records form d file_records 0 0, total_small form file_records d 0))

pub returns : goal.returns
unfolding encode_as
returns c =
    let d = c.args.d.now in
    let form = c.args.form in
    range_total c.map.result (long form d) file_records (records_listed form d file_records 0) c.map.ensures.source c.map.ensures.closure (λ x r q k. search rules) c.sum.result c.sum.ensures.ran
