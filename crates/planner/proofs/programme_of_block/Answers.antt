-- `planner::programme_of_block` meets its contract.
use Rattle.planner.proofs.BlockPlans.{block_list_is, block_steps_is}
use Rattle.planner.proofs.programme_of_block.Goals as goal

pub returns : goal.returns
returns c =
    let is = c.district-district.ensures.value in
    record { strategies = block_list_is _ _ _ is c.alone.ensures; steps = block_steps_is _ _ _ is c.alone.ensures }
