-- `planner::programme_of` meets its contract.
use Rattle.std.proofs.Common.{rules}
use Rattle.planner.proofs.Plans.{priced, sized}
use Rattle.planner.proofs.programme_of.Goals as goal

pub table_in-t-requires : goal.table_in-t-requires
table_in-t-requires c = let filled = c.fill-size.ensures in (filled.tabled, filled.leaders)

pub ceiling_of-bound-requires : goal.ceiling_of-bound-requires
ceiling_of-bound-requires c = sized _ c.fill_down_shares.ensures c.args.d.in_range (c.table_in-t.ensures _ c.fill-size.ensures) (search rules)

pub phases-requires-clause-fit : goal.phases-requires-clause-fit
phases-requires-clause-fit c = (c.table_in-t.ensures _ c.fill-size.ensures).fit

pub phases-requires-clause-bound : goal.phases-requires-clause-bound
phases-requires-clause-bound c = c.ceiling_of-bound.ensures _ (priced c.table_in-t.result c.fill_down_shares.ensures)

pub returns : goal.returns
returns c = let holds = c.table_in-t.ensures _ c.fill-size.ensures in rw (← holds.table, ← holds.leaders) c.phases.ensures
