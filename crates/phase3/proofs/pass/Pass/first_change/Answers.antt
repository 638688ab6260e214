-- `phase3::pass::Pass::first_change` meets its contract.
use Rattle.phase3.proofs.ChangeSearch.{change_single, change_pair}
use Rattle.phase3.proofs.pass.Pass.first_change.Goals as goal

pub returns-in-Some-clause-found : goal.returns-in-Some-clause-found
returns-in-Some-clause-found c = change_single _ _ c.in-Some.ensures

pub returns-in-None-clause-found : goal.returns-in-None-clause-found
returns-in-None-clause-found c = change_pair _ _ c.in-None.ensures c.first_two.ensures.found
