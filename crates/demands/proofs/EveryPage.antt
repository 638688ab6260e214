-- After any list of calls the page can be read: the district is in the file's ranges, and its benefits have their bound.
use Prim.Native.Nat.{ℕ, ◌+◌, ◌*◌, ◌≤◌}
use mathlib.Core.Path.{◌≡◌}
use mathlib.Core.Bool.{true}
use mathlib.Core.List.{List}
use native.Mathlib.Omega.{arith}
use borrow.Author.Tests.{le-leb}
use lib.ListN.{length}
use Rattle.rules.specs.District.{District, segments_of}
use Rattle.rules.specs.File.{in_range}
use Rattle.rules.specs.Page.{rows, lines, page, page_length}
use Rattle.rules.specs.Answers.{answer_of, accepting}
use Rattle.rules.specs.Calls.{page_refusal, exported, page_of, show_of}
use Rattle.rules.specs.Lists.{district_after, unit_after}
use Rattle.rules.specs.Demands.{file_in}
use Rattle.rules.specs.declared.Programme.{Programme}
use Rattle.grammar.specs.Ranges.{Ranges}
use Rattle.grammar.proofs.InRanges.{in_ranges}
use Rattle.rating.proofs.Entries.{candidate_benefit_le}
use Rattle.theorems.specs.Columns.{EveryPage}
use Rattle.theorems.proofs.Columns.{Narrow, on_page}
use Rattle.demands.proofs.Lists.{district_after_lem, after_in, begun_after, begins_after, programme_after}

narrow : (d : District) → Ranges d → Narrow d
narrow d ok =
    let n = ok.resources in
    record {
      segments = ok.segments;
      strategies = ok.strategies;
      lengths = ok.mile_length;
      widths = ok.width;
      limits = λ r l h. ok.limit r l (omega arith);
      benefits = candidate_benefit_le d ok;
    }

module _ (d : District) (p : Programme) (ok : in_range d ≡ true) (buffer : List ℕ) (room : (segments_of d + 3) * 81 ≤ length buffer) where
  page_written : exported (page_refusal d buffer) (page d p) buffer ≡ file_in (lines (rows d p)) buffer
  unfolding exported page_refusal page page_length answer_of accepting
  page_written = rw (ok, le-leb ((segments_of d + 3) * 81) (length buffer) room)

pub every_page : EveryPage
unfolding page_of show_of
every_page cs =
    let d = district_after cs in
    let ok = after_in cs in
    record {
      shown = rw (programme_after cs) (on_page d (narrow d (in_ranges d ok)) (begun_after cs) (begins_after cs));
      written = λ buffer room. rw (district_after_lem cs) (page_written d (unit_after cs).programme ok buffer room);
    }
