-- `tables::UsageTable::row` meets its contract: the numbers of the row are the rules' uses.
use mathlib.Core.Path.{◌∙◌}
use Rattle.tables.proofs.Arrays.{usage_at_lem}
use Rattle.tables.proofs.lent.UsageTable.row.Goals as goal

pub returns : goal.returns
returns c = λ r low high. c.row_of.ensures r low high ∙ usage_at_lem c.args.self.held c.args.i c.args.j r c.requires low high
