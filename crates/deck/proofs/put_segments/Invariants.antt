use Rattle.std.proofs.Common.{◌+◌, ◌-◌, length}
use Rattle.base.proofs.Buffers.{Written}
use Rattle.listing.specs.Listing.{lines_from}
use Rattle.deck.specs.Printed.{segment_line, numbers_at}
use Rattle.deck.proofs.put_segments.Given as goal

-- what is written and what is to come is the whole
abbrev pub invariant-loop-i : goal.invariant-loop-i
invariant-loop-i l =
    let n = length l.segments in
    let line = segment_line (numbers_at l.segments) in
    Written l.initial.out (lines_from n 1 line) (lines_from (n - l.i) (l.i + 1) line) l.at l.out
