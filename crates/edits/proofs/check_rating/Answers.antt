-- `edits::check_rating` meets its contract.
use mathlib.Core.Path.{sym, ap, ◌∙◌}
use lib.Dec.{leb}
use Rattle.edits.proofs.Places.{rating_inside}
use Rattle.edits.proofs.Refused.{handed, refused, holds, behind, last}
use Rattle.edits.proofs.check_rating.Goals as goal

pub returns-in_err-one_to : goal.returns-in_err-one_to
returns-in_err-one_to c = handed _ _ _ c.from_residual.ensures.1 (refused _ _ _ _ c.in_err-one_to.ensures)

pub returns-in_err-one_to-2 : goal.returns-in_err-one_to-2
returns-in_err-one_to-2 c =
    handed _ _ _ c.from_residual-in_err-one_to-2.ensures.1 (behind _ _ _ _ _ _ c.in_ok-one_to.ensures (refused _ _ _ _ c.in_err-one_to-2.ensures))

pub returns : goal.returns
returns c =
    let a = c.args in
    let asked = ap (leb a.rating) c.greatest_of.ensures ∙ sym (rating_inside a.d.now a.distress a.rating (holds _ _ _ c.in_ok-one_to-2.ensures)) in
    behind _ _ _ _ _ _ c.in_ok-one_to.ensures (behind _ _ _ _ _ _ c.in_ok-one_to-2.ensures (last _ _ _ _ asked c.refuse_unless.ensures))
