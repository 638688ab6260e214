-- `printing::put_no_number` meets its contract: its pieces one after another.
use Rattle.base.specs.Text.{text}
use Rattle.texts.specs.Pieces.{pieces_text}
use Rattle.texts.proofs.Told.{no_number}
use Rattle.texts.proofs.printing.put_no_number.Goals as goal

pub put_pieces-requires : goal.put_pieces-requires
unfolding pieces_text text
put_pieces-requires c = rw (no_number c.args.word.now c.take.ensures c.dots.ensures) at c.requires

pub returns : goal.returns
unfolding pieces_text text
returns c = rw (no_number c.args.word.now c.take.ensures c.dots.ensures) c.put_pieces.ensures
