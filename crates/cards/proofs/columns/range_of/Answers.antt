-- `cards::columns::range_of` meets its contract.
use Rattle.std.proofs.Common.{refl}
use Rattle.rules.specs.Deck.{range_of}
use Rattle.rules.specs.Format.{plain_form, slot, most_places}
use Rattle.cards.proofs.columns.range_of.Goals as goal

pub returns-in-Segment : goal.returns-in-Segment
unfolding range_of
returns-in-Segment c =
    let a = c.args in
    rw c.in-Segment.is (c.road_field.ensures c.in-Segment.counts.now (slot plain_form 6 most_places 0) refl c.requires)
