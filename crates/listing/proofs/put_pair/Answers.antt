-- `listing::put_pair` meets its contract: two pieces, one after another.
use Rattle.base.proofs.Text.{front_fits}
use Rattle.listing.specs.Listing.{pair_line}
use Rattle.listing.proofs.Pieces.{second_fits, put_two}
use Rattle.listing.proofs.put_pair.Goals as goal

pub put_named-at-requires : goal.put_named-at-requires
unfolding pair_line
put_named-at-requires c = front_fits _ _ c.requires

pub put_line-requires : goal.put_line-requires
unfolding pair_line
put_line-requires c = second_fits _ _ c.requires c.put_named-at.ensures

pub returns : goal.returns
unfolding pair_line
returns c = put_two _ _ c.requires c.put_named-at.ensures c.put_line.ensures
