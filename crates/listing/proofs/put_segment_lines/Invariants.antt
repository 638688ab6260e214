use Rattle.std.proofs.Common.{◌+◌, ◌-◌, length}
use Rattle.base.proofs.Buffers.{Written}
use Rattle.listing.specs.Listing.{segment_lines}
use Rattle.listing.proofs.put_segment_lines.Given as goal

-- what is written and what is to come is the whole
abbrev pub invariant-loop-i : goal.invariant-loop-i
invariant-loop-i l =
    let n = length l.strategies in
    Written l.initial.out (segment_lines n 1 l.strategies) (segment_lines (n - l.i) (l.i + 1) l.strategies) l.at l.out
