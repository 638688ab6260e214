-- `printing::put_outside` meets its contract: its pieces one after another.
use Rattle.std.proofs.Math.Facts.{to_z-of_z}
use Rattle.base.specs.Text.{text}
use Rattle.grammar.specs.Slots.{slot_in}
use Rattle.texts.specs.Pieces.{pieces_text}
use Rattle.texts.proofs.Told.{outside_told}
use Rattle.texts.proofs.printing.put_outside.Goals as goal

pub put_pieces-requires : goal.put_pieces-requires
unfolding pieces_text text
put_pieces-requires c =
    let a = c.args in
    rw (to_z-of_z c.ranges.v, to_z-of_z c.ranges.lo, to_z-of_z c.ranges.hi) (rw (outside_told a.p (slot_in a.s) a.q a.v a.lo a.hi) at c.requires)

pub returns : goal.returns
unfolding pieces_text text
returns c =
    let a = c.args in
    rw (outside_told a.p (slot_in a.s) a.q a.v a.lo a.hi) (rw (to_z-of_z c.ranges.v, to_z-of_z c.ranges.lo, to_z-of_z c.ranges.hi) at c.put_pieces.ensures)
