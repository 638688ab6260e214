-- `script::rough` meets its contract.
use Rattle.script.proofs.Calls.{asked_left_out}
use Rattle.script.proofs.rough.Goals as goal

pub returns : goal.returns
returns c = asked_left_out _ _ _ c.and.ensures _ c.roughness.ensures.answers
