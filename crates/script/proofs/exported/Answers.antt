-- `script::exported` meets its contract.
use Rattle.rules.specs.File.{longest_file}
use Rattle.rules.specs.Lists.{ExportTo}
use Rattle.script.proofs.Calls.{lent_zeros}
use Rattle.script.proofs.exported.Goals as goal

pub returns : goal.returns
returns c = lent_zeros _ _ ExportTo _ _ _ _ longest_file c.min.ensures c.export.ensures
