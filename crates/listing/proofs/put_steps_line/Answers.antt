-- `listing::put_steps_line` meets its contract: two pieces, one after another.
use Rattle.base.specs.Text.{text}
use Rattle.base.proofs.Text.{front_fits}
use Rattle.listing.specs.Listing.{steps_line, pair_line}
use Rattle.listing.proofs.Pieces.{second_fits, put_two}
use Rattle.listing.proofs.put_steps_line.Goals as goal

pub put_named-at-requires : goal.put_named-at-requires
unfolding steps_line pair_line text
put_named-at-requires c = front_fits _ _ c.requires

pub put_pair-requires : goal.put_pair-requires
unfolding steps_line pair_line text
put_pair-requires c = second_fits _ _ c.requires c.put_named-at.ensures

pub returns : goal.returns
unfolding steps_line pair_line text
returns c = put_two _ _ c.requires c.put_named-at.ensures c.put_pair.ensures
