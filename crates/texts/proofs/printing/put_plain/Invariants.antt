use Rattle.std.proofs.Common.{drop, map}
use Rattle.base.proofs.Buffers.{Written}
use Rattle.texts.specs.Complaints.{plain}
use Rattle.texts.proofs.printing.put_plain.Given as goal

-- what is written and what is to come is the whole
abbrev pub invariant-loop-i : goal.invariant-loop-i
invariant-loop-i l = Written l.initial.out (map plain l.bytes) (map plain (drop l.i l.bytes)) l.i l.out
