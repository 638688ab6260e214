use Rattle.std.proofs.Common.{◌+◌, ◌≡◌}
use Rattle.texts.specs.Words.{is_line_feed, parts, lines_in, lines_from}
use Rattle.texts.specs.Found.{lines_left, behind}
use Rattle.texts.proofs.remaining.Remaining.next.Given as goal

-- the lines before have no words
abbrev pub invariant-loop-line : goal.invariant-loop-line
invariant-loop-line l = (lines_left l.self ≡ lines_from l.number (parts is_line_feed l.bytes)) × (l.number + lines_in l.bytes ≡ behind l.self)

abbrev pub decreases-loop-line : goal.decreases-loop-line
decreases-loop-line l = lines_in l.bytes
