-- `text::on_from` meets its contract.
use Rattle.std.proofs.Common.{◌∙◌, arith}
use Rattle.base.proofs.Parts.{up_fits, on_dropped}
use Rattle.text.proofs.on_from.Goals as goal

pub split_at-requires : goal.split_at-requires
split_at-requires c = omega (arith, up_fits c.args.byte c.args.bytes.now)

pub returns : goal.returns
returns c = c.split_at.ensures.back ∙ on_dropped c.args.byte c.args.bytes.now _ c.find.ensures
