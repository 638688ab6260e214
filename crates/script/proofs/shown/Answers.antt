-- `script::shown` meets its contract.
use Rattle.script.proofs.Calls.{lent_left_out}
use Rattle.script.proofs.shown.Goals as goal

pub returns : goal.returns
returns c = lent_left_out _ _ _ c.and.ensures _ _ _ c.show.ensures.answers
