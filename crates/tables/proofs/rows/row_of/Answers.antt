-- `tables::row_of` meets its contract: the row is the entry's of the table cut into rows.
use Rattle.std.proofs.Common.{arith, ◌-◌}
use Rattle.tables.specs.Arrays.{entry}
use Rattle.tables.proofs.Chunks.{chunk_entry}
use Rattle.tables.proofs.rows.row_of.Goals as goal

pub returns : goal.returns
returns c = λ r low high.
    let p = c.requires in
    rw (c.as_chunks.ensures.front, c.entry.ensures) (chunk_entry (entry c.args.i c.args.j) (r - 1) c.args.table.now (omega (arith, c.told-table, p.low, p.high, p.number)) (omega arith))
