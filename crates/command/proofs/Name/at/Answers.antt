-- `command::Name::at` meets its contract.
use Rattle.std.proofs.Common.{◌∙◌}
use Rattle.command.specs.Reading.{names}
use Rattle.command.proofs.Rows.{name_at}
use Rattle.command.proofs.Name.at.Goals as goal

pub returns : goal.returns
returns c = let got = c.get.ensures.lookup in c.copied.ensures ∙ name_at names _ _ got.0 got.1
