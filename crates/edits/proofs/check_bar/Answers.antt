-- `edits::check_bar` meets its contract.
use mathlib.Core.Path.{refl}
use Rattle.edits.proofs.Refused.{handed, refused, behind, last}
use Rattle.edits.proofs.check_bar.Goals as goal

pub returns-in_err-one_to : goal.returns-in_err-one_to
returns-in_err-one_to c = handed _ _ _ c.from_residual.ensures.1 (refused _ _ _ _ c.in_err-one_to.ensures)

pub returns : goal.returns
returns c = behind _ _ _ _ _ _ c.in_ok-one_to.ensures (last _ _ _ _ refl c.one_to-2.ensures)
