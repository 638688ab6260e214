-- `listing::put_segment_lines` meets its contract.
use Rattle.std.proofs.Common.{ℕ, ◌≡◌, ◌+◌, ◌-◌, ◌<◌, List, ◌++◌, length, get_or, arith}
use Rattle.base.proofs.Buffers.{Written}
use Rattle.base.proofs.Text.{put_all, put_more, tail_fits}
use Rattle.listing.specs.Listing.{lines_from, segment_line, strategy_line, segment_lines}
use Rattle.listing.proofs.Lines.{lines_next}
use Rattle.listing.proofs.put_segment_lines.Goals as goal

-- a segment's line is to come
next :
    {old whole out : List ℕ} {at : ℕ} (n i : ℕ) (s : List ℕ) → i < n → Written old whole (segment_lines (n - i) (i + 1) s) at out
    → Written old whole (segment_line (i + 1) (get_or s i 0) ++ segment_lines (n - (i + 1)) (i + 1 + 1) s) at out
next n i s h w =
    let place : i + 1 - 1 ≡ i = omega arith in
    rw (lines_next n i (strategy_line s) h, place) at w

pub put_segment_line-at-requires : goal.put_segment_line-at-requires
put_segment_line-at-requires c =
    let l = c.loop-i in
    let s = c.args.strategies.now in
    tail_fits (segment_line (l.i + 1) (get_or s l.i 0)) _ (next (length s) l.i s (omega arith) l.invariant) c.requires

pub loop-i-preserved : goal.loop-i-preserved
loop-i-preserved c =
    let l = c.loop-i in
    let s = c.args.strategies.now in
    put_more (segment_line (l.i + 1) (get_or s l.i 0)) _ (next (length s) l.i s (omega arith) l.invariant) c.requires c.put_segment_line-at.ensures

pub returns : goal.returns
unfolding lines_from
returns c =
    let none : length c.args.strategies.now - c.loop-i.i ≡ 0 = omega arith in
    put_all (rw none at c.loop-i.invariant)
