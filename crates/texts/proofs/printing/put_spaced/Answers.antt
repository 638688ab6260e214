-- `printing::put_spaced` meets its contract: the number behind a space.
use Rattle.std.proofs.Math.Facts.{to_z-of_z}
use Rattle.base.specs.Text.{text}
use Rattle.listing.proofs.Pieces.{second_fits, put_two}
use Rattle.texts.specs.Numbers.{written}
use Rattle.texts.proofs.printing.put_spaced.Goals as goal

pub put_written-requires : goal.put_written-requires
unfolding text
put_written-requires c = rw (to_z-of_z c.ranges.v) (second_fits (text " ") (written c.args.v) c.requires c.put-at.ensures)

pub returns : goal.returns
unfolding text
returns c = put_two (text " ") (written c.args.v) c.requires c.put-at.ensures (rw (to_z-of_z c.ranges.v) at c.put_written.ensures)
