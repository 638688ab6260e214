use Rattle.std.proofs.Common.{◌+◌, ◌-◌}
use Rattle.base.specs.Over.{listed, listed_from}
use Rattle.base.proofs.Buffers.{Written}
use Rattle.rules.specs.District.{segments_of}
use Rattle.rules.specs.Page.{segment_row, lines}
use Rattle.pages.proofs.put_segments.Given as goal

-- what is written and what is to come are the lines
abbrev pub invariant-loop-i : goal.invariant-loop-i
invariant-loop-i l =
    let d = l.sheet.ranged.district.now in
    let n = segments_of d in
    let row = segment_row d l.sheet.programme.now.strategies in
    Written l.initial.out (lines (listed n row)) (lines (listed_from (n - l.i) (l.i + 1) row)) l.at l.out
