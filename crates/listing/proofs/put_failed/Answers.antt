-- `listing::put_failed` meets its contract: three pieces, one after another.
use Rattle.base.specs.Text.{text}
use Rattle.base.proofs.Text.{front_fits}
use Rattle.listing.specs.Listing.{failed}
use Rattle.listing.proofs.Pieces.{second_of_three_fits, third_fits, put_three}
use Rattle.listing.proofs.put_failed.Goals as goal

pub put-at-requires : goal.put-at-requires
unfolding failed text
put-at-requires c = front_fits _ _ c.requires

pub put-at-requires-2 : goal.put-at-requires-2
unfolding failed text
put-at-requires-2 c = second_of_three_fits _ _ _ c.requires c.put-at.ensures

pub put-requires : goal.put-requires
unfolding failed text
put-requires c = third_fits _ _ _ c.requires c.put-at.ensures c.put-at-2.ensures

pub returns : goal.returns
unfolding failed text
returns c = put_three _ _ _ c.requires c.put-at.ensures c.put-at-2.ensures c.put.ensures
