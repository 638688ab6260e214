-- `planner::alone` meets its contract.
use Rattle.planner.proofs.alone.Goals as goal

pub table_in-requires : goal.table_in-requires
table_in-requires c = let filled = c.fill-size.ensures in (filled.tabled, filled.leaders)

pub phases_alone-requires : goal.phases_alone-requires
phases_alone-requires c = (c.table_in.ensures _ c.fill-size.ensures).fit

pub returns : goal.returns
returns c = let holds = c.table_in.ensures _ c.fill-size.ensures in rw (← holds.table, ← holds.leaders) c.phases_alone.ensures
