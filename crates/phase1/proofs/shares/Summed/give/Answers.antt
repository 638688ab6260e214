-- `phase1::Summed::give` meets its contract.
use Rattle.std.proofs.Common.{rules}
use Rattle.tables.proofs.Shifts.{shiftable, shifted_are}
use Rattle.phase1.proofs.shares.Summed.give.Goals as goal

pub shift-requires : goal.shift-requires
shift-requires c =
    let p = c.requires in
    shiftable _ p.cells.0 _ _ _ (search rules) (search rules) (search rules) c.row_of-less.ensures c.row_of-more.ensures p.moves

pub returns-clause-sums : goal.returns-clause-sums
returns-clause-sums c =
    let p = c.requires in
    shifted_are _ p.cells.0 _ _ _ (search rules) (search rules) (search rules) c.row_of-less.ensures c.row_of-more.ensures c.shift.ensures
