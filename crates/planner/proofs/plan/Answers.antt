-- `planner::plan` meets its contract.
use Rattle.planner.proofs.BlockPlans.{planned, unplanned}
use Rattle.planner.proofs.plan.Goals as goal

pub returns-in-Some : goal.returns-in-Some
returns-in-Some c =
    let done = planned _ _ c.in-Some.ensures.1 (rw c.in-Some.ensures.0 at c.programme_by.ensures) in
    record { same = done.0; few = done.1 }

pub returns-in-None : goal.returns-in-None
returns-in-None c =
    let none = unplanned _ _ c.in-None.ensures c.no_programme.ensures in
    record { same = none.0; few = none.1 }
