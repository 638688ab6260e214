-- `panel::export` meets its contract.
use Prim.Native.Nat.{ℕ, ◌≤◌}
use mathlib.Core.List.{List}
use mathlib.Core.Path.{◌≡◌, refl, sym, ap, ◌∙◌}
use native.Mathlib.Omega.{arith}
use lib.ListN.{length}
use lib.Seq.{length-take-le}
use Rattle.base.specs.Text.{text}
use Rattle.rules.specs.Desks.{answer_to, desk_after}
use Rattle.rules.specs.Lists.{ExportTo}
use Rattle.rules.specs.Answers.{Answer, Accepted, answer_in}
use Rattle.station.specs.Kept.{Lends}
use Rattle.station.proofs.Replies.{lent_outcome}
use Rattle.panel.specs.Console.{written, unwritten}
use Rattle.panel.specs.Lines.{ByEvents}
use Rattle.panel.specs.declared.Console.{Console}
use Rattle.panel.proofs.Says.{answer_of_lem, export_fits, failed_length, stays, turns}
use Rattle.panel.proofs.export.Goals as goal
use Rattle.panel.proofs.export.Goals.{in-Ok+else-is_err, in_default}

-- the answer is the call's, from what the events so far lead to
fits :
    {x : Console} (buffer : List ℕ) {out : List ℕ} {answer : Answer} (n : ℕ) → ByEvents x
    → Lends x.desk.station x.office (ExportTo buffer) answer out → answer ≡ Accepted n → n ≤ length buffer
fits {x} buffer n known lends is =
    let d = desk_after known.events in
    let same = answer_of_lem (lent_outcome _ _ _ _ _ lends d.held known.keeps.station) in
    export_fits d.held x.office buffer n (same ∙ is)

pub slice_bounds-file-end : goal.slice_bounds-file-end
slice_bounds-file-end g c =
    omega (arith, fits _ c.in-Ok.n c.requires.1 c.export-answer.ensures (ap answer_in c.in-Ok.is), c.export-answer.auto.buffer)

pub slice_bounds-save-end : goal.slice_bounds-save-end
slice_bounds-save-end g c =
    let room : c.in-Ok.n ≤ length c.export-answer.new.buffer =
    omega (arith, fits _ c.in-Ok.n c.requires.1 c.export-answer.ensures (ap answer_in c.in-Ok.is), c.export-answer.auto.buffer) in
    sym (length-take-le _ _ room)

pub put_failed-requires : goal.put_failed-requires
put_failed-requires g c = rw failed_length (omega (arith, c.requires.0))

pub returns-then-is_err : goal.returns-then-is_err
unfolding answer_to text
returns-then-is_err g c =
    λ h k. let same = answer_of_lem (lent_outcome _ _ _ _ _ c.export-answer.ensures h.held k.station) in
    turns (stays k c.put_failed.ensures) (unwritten _ _ refl (same ∙ ap answer_in c.in-Ok.is))

-- after the match the answer is what it was
pub returns : goal.returns
unfolding answer_to text
returns g c =
    λ h k. let e = answer_of_lem (lent_outcome _ _ _ _ _ c.export-answer.ensures h.held k.station) in
    let same : c.match-answer.answer ≡ c.export-answer.result = elim c.match-answer.branch [ in-Ok+else-is_err w ↦ w.answer-is ∙ sym w.in-Ok.is | in_default w ↦ w.answer-is ] in
    turns (stays k (rw (ap answer_in same ∙ sym e) at c.put_valued.ensures)) (written _ refl)
