-- `deck::put_cards` meets its contract: two pieces, one after another.
use Rattle.std.proofs.Common.{◌≡◌, ◌++◌, length, arith}
use Rattle.std.specs.Prelude.{take}
use Rattle.base.proofs.Text.{front_fits}
use Rattle.listing.proofs.Pieces.{second_fits, put_two}
use Rattle.listing.specs.Listing.{lines_from}
use Rattle.rules.specs.District.{segments_of}
use Rattle.deck.specs.Printed.{counts_line, segment_line, numbers_at, held_lines}
use Rattle.deck.proofs.Printed.{held_are}
use Rattle.deck.proofs.put_cards.Goals as goal
use Rattle.deck.proofs.put_cards.Goals.{Start}

-- the two pieces
pieces : (c : Start) → let d = c.args.deck.now in
    let s = take (segments_of d.counts) d.segments in
    counts_line d.counts ++ lines_from (length s) 1 (segment_line (numbers_at s)) ≡ held_lines d
pieces c = held_are c.args.deck.now (omega (arith, c.requires.few))

pub put_counts-at-requires : goal.put_counts-at-requires
put_counts-at-requires c = front_fits _ _ (rw (← pieces (goal.at.put_counts-at-requires c).Start) at c.requires.room)

pub put_segments-requires : goal.put_segments-requires
put_segments-requires c = second_fits _ _ (rw (← pieces (goal.at.put_segments-requires c).Start) at c.requires.room) c.put_counts-at.ensures

pub returns : goal.returns
returns c =
    let e = pieces (goal.at.returns c).Start in
    rw (← e) (put_two _ _ (rw (← e) at c.requires.room) c.put_counts-at.ensures c.put_segments.ensures)
