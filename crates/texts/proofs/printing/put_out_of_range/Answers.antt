-- `printing::put_out_of_range` meets its contract: its pieces one after another.
use Rattle.std.proofs.Math.Facts.{to_z-of_z}
use Rattle.base.specs.Text.{text}
use Rattle.texts.specs.Pieces.{pieces_text}
use Rattle.texts.proofs.Told.{out_of_range}
use Rattle.texts.proofs.printing.put_out_of_range.Goals as goal

pub put_pieces-requires : goal.put_pieces-requires
unfolding pieces_text text
put_pieces-requires c = rw (to_z-of_z c.ranges.lo, to_z-of_z c.ranges.hi) (rw (out_of_range c.args.word.now c.args.lo c.args.hi) at c.requires)

pub returns : goal.returns
unfolding pieces_text text
returns c = rw (out_of_range c.args.word.now c.args.lo c.args.hi) (rw (to_z-of_z c.ranges.lo, to_z-of_z c.ranges.hi) at c.put_pieces.ensures)
