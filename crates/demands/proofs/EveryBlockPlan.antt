-- Request 13, after any list of calls: where blocks are followed, the total is at least the sum of theirs, and the steps are as few as ever.
use Rattle.rules.specs.Lists.{district_after, choice_after}
use Rattle.theorems.specs.BlockPlans.{EveryBlockPlan}
use Rattle.theorems.proofs.Joined.{in_blocks}
use Rattle.demands.proofs.Lists.{counts_after, shown_after}

pub every_block_plan : EveryBlockPlan
every_block_plan cs = rw (shown_after cs) (in_blocks (choice_after cs) (district_after cs) (counts_after cs))
