-- `printing::put_other_length` meets its contract: its pieces one after another.
use Rattle.base.specs.Text.{text}
use Rattle.grammar.specs.Slots.{slot_in}
use Rattle.texts.specs.Pieces.{pieces_text}
use Rattle.texts.proofs.Told.{other_length_told}
use Rattle.texts.proofs.printing.put_other_length.Goals as goal

pub put_pieces-requires : goal.put_pieces-requires
unfolding pieces_text text
put_pieces-requires c = rw (other_length_told c.args.p (slot_in c.args.s) c.args.size c.args.due) at c.requires

pub returns : goal.returns
unfolding pieces_text text
returns c = rw (other_length_told c.args.p (slot_in c.args.s) c.args.size c.args.due) c.put_pieces.ensures
