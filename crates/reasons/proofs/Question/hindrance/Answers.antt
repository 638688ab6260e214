-- `reasons::Question::hindrance` meets its contract.
use mathlib.Core.Path.{refl, ◌∙◌, ap}
use mathlib.Core.Bool.{not}
use lib.IntN.{ℤ, pos}
use lib.Signed.{le_z}
use mir.Syntax.{w64}
use Rattle.base.proofs.Integers.{told}
use Rattle.base.proofs.Search.{or_else_assoc}
use Rattle.rules.specs.Reasons.{holds, hindrance}
use Rattle.rules.specs.declared.Reason.TheVariants.{InProgramme, Barred, OverallMissed, NoBenefit}
use Rattle.reasons.proofs.Searches.{given_by, or_is}
use Rattle.reasons.proofs.Question.hindrance.Goals as goal

pub returns : goal.returns
unfolding holds hindrance
returns c =
    or_is c.or-5.ensures
    (or_is c.or-4.ensures
    (or_is c.or-3.ensures
    (or_is c.or-2.ensures
    (or_is c.or.ensures (given_by InProgramme c.then_some.ensures refl) (given_by Barred c.then_some-2.ensures c.barred-barred.ensures))
    c.missed_minimum.ensures)
    (given_by OverallMissed c.then_some-3.ensures (ap not c.overall_reached-short.ensures)))
    (given_by NoBenefit c.then_some-4.ensures (ap (λ (z : ℤ). le_z z (pos 0)) (told w64 c.benefit-worthless.type_inv c.benefit-worthless.ensures))))
    c.late_hindrance.ensures
    ∙ simp or_else_assoc
