use Rattle.std.proofs.Common.{◌≡◌, length}
use Rattle.std.specs.Iterator.Adapters.{zip_first, zip_second}
use Rattle.std.specs.Slice.Iter.{iter_rest}
use Rattle.base.proofs.Buffers.{Written}
use Rattle.rules.specs.Page.{widths, line}
use Rattle.pages.specs.Cells.{texts}
use Rattle.pages.proofs.cells.put_row.Given as goal

-- what is still to come are the columns that are left
abbrev pub invariant-loop-width : goal.invariant-loop-width
invariant-loop-width l =
    let columns = iter_rest (zip_first l.width-iterator) in
    let cells = iter_rest (zip_second l.width-iterator) in
    record {
      same : length columns ≡ length cells;
      written : Written l.initial.out (line widths (texts l.fn.row)) (line columns (texts cells)) l.at l.out;
    }
