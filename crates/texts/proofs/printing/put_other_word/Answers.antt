-- `printing::put_other_word` meets its contract: its pieces one after another.
use Rattle.base.specs.Text.{text}
use Rattle.texts.specs.Pieces.{pieces_text}
use Rattle.texts.proofs.Told.{other_word}
use Rattle.texts.proofs.printing.put_other_word.Goals as goal

pub put_pieces-requires : goal.put_pieces-requires
unfolding pieces_text text
put_pieces-requires c = rw (other_word c.args.word.now c.args.kind c.take.ensures c.dots.ensures c.word_of.ensures) at c.requires

pub returns : goal.returns
unfolding pieces_text text
returns c = rw (other_word c.args.word.now c.args.kind c.take.ensures c.dots.ensures c.word_of.ensures) c.put_pieces.ensures
