-- `tables::Draft::give` meets its contract.
use Rattle.std.proofs.Common.{rules}
use Rattle.tables.proofs.Moves.{moves, running_give}
use Rattle.tables.proofs.Shifts.{shiftable, shifted_long, shifted_are}
use Rattle.tables.proofs.draft.Draft.give.Goals as goal

pub shift-requires : goal.shift-requires
shift-requires c =
    let running = c.requires.running in
    let inside = c.requires.inside in
    shiftable _ running.bounded.resources _ _ _ running.sums_length (search rules) (search rules) c.row.ensures c.row-2.ensures (moves running _ _ inside.0 inside.1 inside.2)

pub returns-clause-running_2 : goal.returns-clause-running_2
returns-clause-running_2 c =
    let running = c.requires.running in
    let inside = c.requires.inside in
    let few = running.bounded.resources in
    running_give running _ _ inside.0 inside.1 inside.2
    (shifted_long _ few _ _ _ running.sums_length (search rules) (search rules) c.row.ensures c.row-2.ensures c.shift.ensures)
    (shifted_are _ few _ _ _ running.sums_length (search rules) (search rules) c.row.ensures c.row-2.ensures c.shift.ensures)
