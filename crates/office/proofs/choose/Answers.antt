-- `office::choose` meets its contract.
use Rattle.std.proofs.Common.{refl}
use Rattle.rules.specs.Lists.{outcome_of}
use Rattle.office.proofs.Planned.{planned_reply}
use Rattle.office.proofs.choose.Goals as goal

pub returns : goal.returns
unfolding outcome_of
returns c = planned_reply _ _ _ _ refl c.choose.ensures refl
