-- `script::stepped` meets its contract.
use Rattle.std.proofs.Common.{rules}
use Rattle.script.proofs.Calls.{stepped_happens}
use Rattle.script.proofs.stepped.Goals as goal

pub returns : goal.returns
returns c = stepped_happens _ _ _ _ (λ idle. search rules) (λ t carried. search rules) c.step.ensures
