-- `listing::put_ended` meets its contract: two pieces, one after another.
use Rattle.base.proofs.Text.{front_fits}
use Rattle.listing.specs.Listing.{ended}
use Rattle.listing.proofs.Pieces.{second_fits, put_two}
use Rattle.listing.proofs.put_ended.Goals as goal

pub put_named-at-requires : goal.put_named-at-requires
unfolding ended
put_named-at-requires c = front_fits _ _ c.requires

pub put-requires : goal.put-requires
unfolding ended
put-requires c = second_fits _ _ c.requires c.put_named-at.ensures

pub returns : goal.returns
unfolding ended
returns c = put_two _ _ c.requires c.put_named-at.ensures c.put.ensures
