-- `planner::programme_by` meets its contract.
use Rattle.planner.proofs.BlockPlans.{joined_placed, from_blocks, ordinary}
use Rattle.planner.proofs.programme_by.Goals as goal

pub go_on-requires : goal.go_on-requires
go_on-requires c = let is = c.in-Some.ensures in joined_placed _ _ c.args.d.in_range is.0 (rw (is.1, is.2) at c.join_all.ensures)

pub returns-in-None : goal.returns-in-None
returns-in-None c = ordinary _ _ c.in-None.ensures c.programme_of.ensures

pub returns-in-Some : goal.returns-in-Some
returns-in-Some c = let is = c.in-Some.ensures in from_blocks _ _ is.0 (rw (is.1, is.2) at c.join_all.ensures) c.go_on.ensures
