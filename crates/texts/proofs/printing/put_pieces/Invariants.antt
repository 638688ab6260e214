use Rattle.std.proofs.Common.{drop}
use Rattle.base.proofs.Buffers.{Written}
use Rattle.texts.specs.Pieces.{pieces_text}
use Rattle.texts.proofs.printing.put_pieces.Given as goal

-- what is written and what is to come is the whole
abbrev pub invariant-loop-piece : goal.invariant-loop-piece
invariant-loop-piece l = Written l.initial.out (pieces_text l.pieces) (pieces_text (drop l.piece-index l.pieces)) l.at l.out
