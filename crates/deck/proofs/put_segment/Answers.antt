-- `deck::put_segment` meets its contract: two pieces, one after another.
use Rattle.deck.specs.Printed.{segment_line}
use Rattle.base.proofs.Text.{front_fits}
use Rattle.listing.proofs.Pieces.{second_fits, put_two}
use Rattle.deck.proofs.put_segment.Goals as goal

pub put_number-at-requires : goal.put_number-at-requires
unfolding segment_line
put_number-at-requires c = front_fits _ _ c.requires

pub put_numbers-requires : goal.put_numbers-requires
unfolding segment_line
put_numbers-requires c = second_fits _ _ c.requires c.put_number-at.ensures.put

pub returns : goal.returns
unfolding segment_line
returns c = put_two _ _ c.requires c.put_number-at.ensures.put c.put_numbers.ensures
