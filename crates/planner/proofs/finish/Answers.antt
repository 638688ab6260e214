-- `planner::finish` meets its contract.
use Rattle.planner.proofs.Plans.{together}
use Rattle.planner.proofs.finish.Goals as goal

pub returns : goal.returns
returns c =
    let picked = c.pick_up-pickups.ensures in
    let improved = c.improve-changes.ensures in
    together _ _ _ _ _ _ _ _ _ _ _ picked.choice_after picked.value (c.total-after_pickups.ensures _ _)
    (rw picked.same_table at improved.choice_after) (rw picked.same_table at improved.value) (c.total-total.ensures _ _) c.requires
