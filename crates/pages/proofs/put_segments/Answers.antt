-- `pages::put_segments` meets its contract.
use Rattle.std.proofs.Common.{ℕ, ◌≡◌, ◌+◌, ◌-◌, ◌*◌, ◌≤◌, ◌<◌, List, ◌++◌, length, arith}
use Rattle.base.specs.Over.{listed, listed_from}
use Rattle.base.proofs.Buffers.{Written}
use Rattle.base.proofs.Text.{put_all, put_more, tail_fits}
use Rattle.laws.proofs.Page.{line_length}
use Rattle.rules.specs.District.{District, segments_of}
use Rattle.rules.specs.Page.{widths, line, segment_row, lines}
use Rattle.rules.specs.declared.Programme.{Programme}
use Rattle.pages.specs.Printed.{line_bytes}
use Rattle.pages.proofs.Lines.{lines_next, segment_lines_length}
use Rattle.pages.proofs.put_segments.Goals as goal

-- a line is to come
next :
    {old whole out : List ℕ} {at : ℕ} (n i : ℕ) (f : ℕ → List (List ℕ)) → i < n → Written old whole (lines (listed_from (n - i) (i + 1) f)) at out
    → Written old whole (line widths (f (i + 1)) ++ lines (listed_from (n - (i + 1)) (i + 1 + 1) f)) at out
next n i f h written = rw (lines_next n i f h) at written

fits : (d : District) (p : Programme) (n : ℕ) → segments_of d * line_bytes ≤ n → length (lines (listed (segments_of d) (segment_row d p.strategies))) ≤ n
fits d p n h = omega (arith, segment_lines_length d p)

pub put_row-at-requires : goal.put_row-at-requires
put_row-at-requires c =
    let l = c.loop-i in
    let sheet = c.args.sheet.now in
    let d = sheet.ranged.district.now in
    let row = segment_row d sheet.programme.now.strategies in
    let room = tail_fits (line widths (row (l.i + 1))) _ (next (segments_of d) l.i row (omega arith) l.invariant) (fits d sheet.programme.now _ c.requires) in
    omega (arith, line_length (row (l.i + 1)), room)

pub loop-i-preserved : goal.loop-i-preserved
loop-i-preserved c =
    let l = c.loop-i in
    let sheet = c.args.sheet.now in
    let d = sheet.ranged.district.now in
    let row = segment_row d sheet.programme.now.strategies in
    put_more (line widths (row (l.i + 1))) _ (next (segments_of d) l.i row (omega arith) l.invariant) (fits d sheet.programme.now _ c.requires)
    (rw c.segment_row.ensures at c.put_row-at.ensures)

pub returns : goal.returns
unfolding lines listed_from
returns c =
    let none : segments_of c.args.sheet.now.ranged.district.now - c.loop-i.i ≡ 0 = omega arith in
    put_all (rw none at c.loop-i.invariant)
