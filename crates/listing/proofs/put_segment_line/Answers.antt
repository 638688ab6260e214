-- `listing::put_segment_line` meets its contract: two pieces, one after another.
use Rattle.base.specs.Text.{text}
use Rattle.base.proofs.Text.{front_fits}
use Rattle.listing.specs.Listing.{segment_line}
use Rattle.listing.proofs.Pieces.{second_fits, put_two}
use Rattle.listing.proofs.put_segment_line.Goals as goal

pub put_number-at-requires : goal.put_number-at-requires
unfolding segment_line text
put_number-at-requires c = front_fits _ _ c.requires

pub put_line-requires : goal.put_line-requires
unfolding segment_line text
put_line-requires c = second_fits _ _ c.requires c.put_number-at.ensures.put

pub returns : goal.returns
unfolding segment_line text
returns c = put_two _ _ c.requires c.put_number-at.ensures.put c.put_line.ensures
