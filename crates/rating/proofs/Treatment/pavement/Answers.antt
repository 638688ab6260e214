-- `rating::Treatment::pavement` meets its contract: a segment's type is one that there is.
use Rattle.rating.proofs.Bounds.{pavement_in}
use Rattle.rating.proofs.Places.{pavement_is}
use Rattle.rating.proofs.Treatment.pavement.Goals as goal

pub returns : goal.returns
returns c =
    let s = c.args.self.now in
    let value = pavement_is s.ranged.district.now s.segment c.segment_at.ensures in
    record { value = value; there = rw value (pavement_in _ s.ranged.in_range _ (s.segment_in.0, c.requires)) }
