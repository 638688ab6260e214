-- `blocks::Blocks::of` meets its contract.
use Rattle.blocks.proofs.Rows.{no_row}
use Rattle.blocks.proofs.Blocks.of.Goals as goal

pub returns-in_err-row : goal.returns-in_err-row
returns-in_err-row c = rw c.from_residual.ensures (no_row _ _ c.in_err-row.ensures)
