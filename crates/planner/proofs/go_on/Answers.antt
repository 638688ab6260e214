-- `planner::go_on` meets its contract.
use Rattle.std.proofs.Common.{rules}
use Rattle.planner.proofs.Plans.{priced, sized, chosen_of}
use Rattle.planner.proofs.go_on.Goals as goal

pub table_in-t-requires : goal.table_in-t-requires
table_in-t-requires c = let filled = c.fill-size.ensures in (filled.tabled, filled.leaders)

pub ceiling_of-bound-requires : goal.ceiling_of-bound-requires
ceiling_of-bound-requires c = sized _ c.fill_down_shares.ensures c.args.d.in_range (c.table_in-t.ensures _ c.fill-size.ensures) (search rules)

pub draft_of-draft-requires : goal.draft_of-draft-requires
draft_of-draft-requires c = (c.table_in-t.result.bounded, chosen_of (c.table_in-t.ensures _ c.fill-size.ensures) c.requires)

pub finish-requires : goal.finish-requires
finish-requires c = c.ceiling_of-bound.ensures _ (priced c.table_in-t.result c.fill_down_shares.ensures)

pub returns : goal.returns
returns c =
    let holds = c.table_in-t.ensures _ c.fill-size.ensures in
    rw (← holds.table, ← holds.leaders, ← c.draft_of-draft.ensures.same_choice) c.finish.ensures
