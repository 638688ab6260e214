-- `printing::put_pieces` meets its contract.
use Rattle.std.proofs.Common.{◌≡◌, [], get_or, drop, drop_of_length-le, arith}
use Rattle.base.proofs.Text.{put_all, put_more, tail_fits}
use Rattle.texts.specs.Pieces.{piece_text, pieces_text}
use Rattle.texts.proofs.Printed.{piece_next}
use Rattle.texts.proofs.printing.put_pieces.Goals as goal

pub put_piece-at-requires : goal.put_piece-at-requires
put_piece-at-requires c =
    let l = c.loop-piece in
    tail_fits (piece_text (get_or c.args.pieces.now l.piece-index _)) _ (piece_next c.args.pieces.now l.piece-index _ (omega arith) l.invariant) c.requires

pub loop-piece-preserved : goal.loop-piece-preserved
loop-piece-preserved c =
    let l = c.loop-piece in
    put_more (piece_text (get_or c.args.pieces.now l.piece-index _)) _ (piece_next c.args.pieces.now l.piece-index _ (omega arith) l.invariant) c.requires c.put_piece-at.ensures

pub returns : goal.returns
unfolding pieces_text
returns c =
    let l = c.loop-piece in
    let none : drop l.piece-index c.args.pieces.now ≡ [] = drop_of_length-le c.args.pieces.now (omega arith) in
    put_all (rw none at l.invariant)
