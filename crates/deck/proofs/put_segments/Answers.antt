-- `deck::put_segments` meets its contract.
use Rattle.std.proofs.Common.{ℕ, ◌≡◌, ◌+◌, ◌-◌, ◌<◌, List, [], ◌++◌, length, get_or, arith}
use Rattle.base.proofs.Buffers.{Written}
use Rattle.base.proofs.Text.{put_all, put_more, tail_fits}
use Rattle.listing.specs.Listing.{lines_from}
use Rattle.listing.proofs.Lines.{lines_next}
use Rattle.deck.specs.Printed.{segment_line, numbers_at}
use Rattle.deck.proofs.put_segments.Goals as goal

-- a segment's line is to come
next :
    {old whole out : List ℕ} {at : ℕ} (n i : ℕ) (s : List (List ℕ)) → i < n → Written old whole (lines_from (n - i) (i + 1) (segment_line (numbers_at s))) at out
    → Written old whole (segment_line (λ _. get_or s i []) (i + 1) ++ lines_from (n - (i + 1)) (i + 1 + 1) (segment_line (numbers_at s))) at out
unfolding segment_line
next n i s h w =
    let place : i + 1 - 1 ≡ i = omega arith in
    rw (lines_next n i (segment_line (numbers_at s)) h, place) at w

pub put_segment-at-requires : goal.put_segment-at-requires
put_segment-at-requires c =
    let l = c.loop-i in
    let s = c.args.segments.now in
    tail_fits (segment_line (λ _. get_or s l.i []) (l.i + 1)) _ (next (length s) l.i s (omega arith) l.invariant) c.requires

pub loop-i-preserved : goal.loop-i-preserved
loop-i-preserved c =
    let l = c.loop-i in
    let s = c.args.segments.now in
    put_more (segment_line (λ _. get_or s l.i []) (l.i + 1)) _ (next (length s) l.i s (omega arith) l.invariant) c.requires c.put_segment-at.ensures

pub returns : goal.returns
unfolding lines_from
returns c =
    let none : length c.args.segments.now - c.loop-i.i ≡ 0 = omega arith in
    put_all (rw none at c.loop-i.invariant)
