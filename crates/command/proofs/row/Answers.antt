-- `command::row` meets its contract.
use borrow.Author.Tests.{true-eqb, false-eqb}
use Rattle.command.proofs.Blocks.{row_long, row_alone, row_behind, rest_fits}
use Rattle.command.proofs.row.Goals as goal

pub returns-then-line-gt-LONGEST_LINE : goal.returns-then-line-gt-LONGEST_LINE
returns-then-line-gt-LONGEST_LINE c = row_long _ _ c.if-line-gt-LONGEST_LINE.true

pub returns-then-is_empty : goal.returns-then-is_empty
returns-then-is_empty c =
    let none = true-eqb _ _ c.if-is_empty.ensures in
    rw c.new.ensures (row_alone _ _ c.if-line-gt-LONGEST_LINE.false (rw c.on_from-blocks.ensures at none))

pub read_blocks-requires : goal.read_blocks-requires
read_blocks-requires c = rw c.on_from-blocks.ensures (rest_fits c.args.line.now c.if-line-gt-LONGEST_LINE.false)

pub returns : goal.returns
returns c =
    let some = false-eqb _ _ c.if-is_empty.ensures in
    rw (row_behind c.args.each c.args.line.now c.if-line-gt-LONGEST_LINE.false (rw c.on_from-blocks.ensures at some)) (rw c.on_from-blocks.ensures at c.read_blocks.ensures)
