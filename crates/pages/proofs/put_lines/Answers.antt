-- `pages::put_lines` meets its contract: four pieces, one behind the other.
use Rattle.std.proofs.Common.{ℕ, ◌+◌, ◌-◌, ◌*◌, ◌≤◌, List, ◌++◌, length, take, drop, ap, arith}
use borrow.Rule.Slice.PartMut.{put_mid}
use Rattle.base.specs.Over.{listed}
use Rattle.base.specs.Text.{Put}
use Rattle.base.proofs.Buffers.{Written}
use Rattle.base.proofs.Text.{put_front, put_more, put_last, tail_fits, last_fits, front_fits}
use Rattle.laws.proofs.Page.{line_length, lines_length, rows_length}
use Rattle.rules.specs.District.{District, segments_of}
use Rattle.rules.specs.Page.{widths, line, heading, segment_row, total_row, limits_row, rows, lines}
use Rattle.rules.specs.declared.Programme.{Programme}
use Rattle.pages.specs.Printed.{line_bytes}
use Rattle.pages.proofs.Lines.{page_lines, segment_lines_length}
use Rattle.pages.proofs.put_lines.Goals as goal

module _ (d : District) (p : Programme) where
  segments : List ℕ
  segments = lines (listed (segments_of d) (segment_row d p.strategies))

  total : List ℕ
  total = line widths (total_row d p)

  limits : List ℕ
  limits = line widths (limits_row d)

  whole : List ℕ
  whole = line widths heading ++ (segments ++ (total ++ limits))

  module _ (old : List ℕ) (room : (segments_of d + 3) * line_bytes ≤ length old) where
    fits : length whole ≤ length old
    unfolding segments total limits whole
    fits = omega (arith, ap length (page_lines d p), lines_length (rows d p), rows_length d p)

    -- what is still to come behind the heading, behind the segments, and behind the total
    module _ {out : List ℕ} {n : ℕ} (put : Put (line widths heading) old out n) where
      first : Written old whole (segments ++ (total ++ limits)) n out
      unfolding whole
      first = put_front (line widths heading) (segments ++ (total ++ limits)) put (front_fits (line widths heading) (segments ++ (total ++ limits)) fits)

      module _ {mid : List ℕ} {m : ℕ} (put₂ : Put segments (take (length out - n) (drop n out)) mid m) where
        second : Written old whole (total ++ limits) (n + m) (put_mid n (length out - n) out mid)
        second = put_more segments (total ++ limits) first fits put₂

        third : {late : List ℕ} {k : ℕ}
            → Put total (take (length (put_mid n (length out - n) out mid) - (n + m)) (drop (n + m) (put_mid n (length out - n) out mid))) late k
            → Written old whole limits (n + m + k) (put_mid (n + m) (length (put_mid n (length out - n) out mid) - (n + m)) (put_mid n (length out - n) out mid) late)
        third put₃ = put_more total limits second fits put₃

pub put_segments-at-requires : goal.put_segments-at-requires
unfolding segments
put_segments-at-requires c =
    let d = c.args.sheet.now.ranged.district.now in
    let p = c.args.sheet.now.programme.now in
    omega (arith, segment_lines_length d p, tail_fits (segments d p) (total d p ++ limits d p) (first d p _ c.requires c.put_heading-at.ensures) (fits d p _ c.requires))

pub put_row-at-requires : goal.put_row-at-requires
unfolding segments total
put_row-at-requires c =
    let d = c.args.sheet.now.ranged.district.now in
    let p = c.args.sheet.now.programme.now in
    let second = second d p _ c.requires c.put_heading-at.ensures c.put_segments-at.ensures in
    omega (arith, line_length (total_row d p), tail_fits (total d p) (limits d p) second (fits d p _ c.requires))

pub put_row-requires : goal.put_row-requires
unfolding segments total limits
put_row-requires c =
    let d = c.args.sheet.now.ranged.district.now in
    let p = c.args.sheet.now.programme.now in
    let third = third d p _ c.requires c.put_heading-at.ensures c.put_segments-at.ensures (rw c.total_row.ensures at c.put_row-at.ensures) in
    omega (arith, line_length (limits_row d), last_fits third (fits d p _ c.requires))

pub returns : goal.returns
unfolding segments total limits whole
returns c =
    let d = c.args.sheet.now.ranged.district.now in
    let p = c.args.sheet.now.programme.now in
    let third = third d p _ c.requires c.put_heading-at.ensures c.put_segments-at.ensures (rw c.total_row.ensures at c.put_row-at.ensures) in
    rw (page_lines d p) (put_last third (fits d p _ c.requires) (rw c.limits_row.ensures at c.put_row.ensures))
