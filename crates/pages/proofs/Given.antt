-- What the call of a page gives.
use Prim.Native.Nat.{ℕ, ◌+◌, ◌*◌, ◌≤◌, ◌<◌}
use mathlib.Core.Path.{◌≡◌, refl, sym, ap, ◌∙◌}
use mathlib.Core.Bool.{Bool, true, false}
use mathlib.Core.List.{List, [], ◌++◌}
use native.Mathlib.Omega.{arith}
use lib.ListN.{length, drop}
use Rattle.base.specs.Choice.{pick}
use Rattle.base.specs.Text.{Put}
use Rattle.grammar.proofs.InRanges.{in_ranges}
use Rattle.file.proofs.Refusals.{exported_short, exported_fits}
use Rattle.rules.specs.Answers.{no_room_for_page, Answer, Accepted, Refused}
use Rattle.rules.specs.Calls.{page_refusal, Export, exported}
use Rattle.rules.specs.District.{District, segments_of}
use Rattle.rules.specs.File.{in_range}
use Rattle.rules.specs.Page.{rows, lines, page, page_length}
use Rattle.rules.specs.declared.Programme.{Programme}
use Rattle.pages.specs.Printed.{line_bytes, longest_page}

module _ (d : District) (p : Programme) (buffer : List ℕ) where
  -- a district out of range
  pub page_none : in_range d ≡ false → record { answer = Accepted 0; buffer = buffer } ≡ exported (page_refusal d buffer) (page d p) buffer
  unfolding page page_length page_refusal
  page_none e = rw e (exported_fits 0 no_room_for_page [] buffer (omega arith))

  module _ (ranged : in_range d ≡ true) where
    pub page_short : length buffer < line_bytes * (segments_of d + 3) → record { answer = Refused no_room_for_page; buffer = buffer } ≡ exported (page_refusal d buffer) (page d p) buffer
    unfolding page page_length page_refusal
    page_short h = rw ranged (exported_short ((segments_of d + 3) * line_bytes) _ (lines (rows d p)) buffer (omega arith))

    pub page_fits : line_bytes * (segments_of d + 3) ≤ length buffer → {new : List ℕ} {n : ℕ} → Put (lines (rows d p)) buffer new n → record { answer = Accepted n; buffer = new } ≡ exported (page_refusal d buffer) (page d p) buffer
    unfolding page page_length page_refusal
    page_fits h put =
        rw (ranged, put.count, put.bytes) (exported_fits ((segments_of d + 3) * line_bytes) no_room_for_page (lines (rows d p)) buffer (omega arith))

-- ---- a buffer with room for any page

page_most : (d : District) → page_length d ≤ longest_page
unfolding page_length
page_most d = known (in_range d) refl
  where
    known : (t : Bool) → in_range d ≡ t → pick t ((segments_of d + 3) * line_bytes) 0 ≤ longest_page
    known true e = let n = (in_ranges d e).segments in omega arith
    known false e = omega arith

-- the page is put there, and its length is the answer
pub page_given : (d : District) (p : Programme) (old : List ℕ) {a : Answer} {new : List ℕ} → record { answer = a; buffer = new } ≡ exported (page_refusal d old) (page d p) old → longest_page ≤ length old
    → (a ≡ Accepted (length (page d p))) × (new ≡ page d p ++ drop (length (page d p)) old)
unfolding page_refusal
page_given d p old e h =
    let given = e ∙ sym (exported_fits (page_length d) no_room_for_page (page d p) old (omega (arith, page_most d))) in
    (ap (λ (x : Export). x.answer) given, ap (λ (x : Export). x.buffer) given)
