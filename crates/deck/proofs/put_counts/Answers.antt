-- `deck::put_counts` meets its contract: two pieces, one after another.
use Rattle.base.specs.Text.{text}
use Rattle.deck.specs.Printed.{numbers_line, counts_line}
use Rattle.base.proofs.Text.{front_fits}
use Rattle.listing.proofs.Pieces.{second_fits, put_two}
use Rattle.deck.proofs.put_counts.Goals as goal

pub put-at-requires : goal.put-at-requires
unfolding counts_line text
put-at-requires c = front_fits (text "counts") (numbers_line c.args.counts.now) c.requires

pub put_numbers-requires : goal.put_numbers-requires
unfolding counts_line text
put_numbers-requires c = second_fits (text "counts") _ c.requires c.put-at.ensures

pub returns : goal.returns
unfolding counts_line text
returns c = put_two (text "counts") _ c.requires c.put-at.ensures c.put_numbers.ensures
