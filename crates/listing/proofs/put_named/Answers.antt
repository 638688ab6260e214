-- `listing::put_named` meets its contract: two pieces, one after another.
use Rattle.base.proofs.Text.{front_fits}
use Rattle.listing.specs.Listing.{named}
use Rattle.listing.proofs.Pieces.{second_fits, put_two}
use Rattle.listing.proofs.put_named.Goals as goal

pub put-at-requires : goal.put-at-requires
unfolding named
put-at-requires c = front_fits _ _ c.requires

pub put_number-requires : goal.put_number-requires
unfolding named
put_number-requires c = second_fits _ _ c.requires c.put-at.ensures

pub returns : goal.returns
unfolding named
returns c = put_two _ _ c.requires c.put-at.ensures c.put_number.ensures.put
