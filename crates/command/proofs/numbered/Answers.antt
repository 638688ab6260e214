-- `command::numbered` meets its contract.
use Rattle.std.proofs.Common.{arith}
use Rattle.command.proofs.Rows.{numbered_at, numbered_past}
use Rattle.command.proofs.numbered.Goals as goal

pub returns : goal.returns
returns c = grind (arith, numbered_at, numbered_past)
