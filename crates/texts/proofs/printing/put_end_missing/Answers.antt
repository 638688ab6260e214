-- `printing::put_end_missing` meets its contract: its pieces one after another.
use Rattle.base.specs.Text.{text}
use Rattle.texts.specs.Pieces.{pieces_text}
use Rattle.texts.proofs.Told.{end_missing}
use Rattle.texts.proofs.printing.put_end_missing.Goals as goal

pub put_pieces-requires : goal.put_pieces-requires
unfolding pieces_text text
put_pieces-requires c = rw (end_missing c.args.kind c.word_of.ensures) at c.requires

pub returns : goal.returns
unfolding pieces_text text
returns c = rw (end_missing c.args.kind c.word_of.ensures) c.put_pieces.ensures
