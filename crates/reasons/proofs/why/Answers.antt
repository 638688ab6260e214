-- `reasons::why` meets its contract.
use mathlib.Core.Path.{◌≡◌, refl, ◌∙◌, ap}
use Rattle.std.proofs.lemmas.Result.{err_from_is_err_and}
use Rattle.std.specs.Prelude.{Option, None, Some}
use Rattle.std.specs.Option.{unwrap_or}
use Rattle.rules.specs.Reasons.{or_last}
use Rattle.rules.specs.declared.Reason.{Reason}
use Rattle.rules.specs.declared.Reason.TheVariants.{NoGreaterTotal}
use Rattle.reasons.proofs.Answers.{refused_as, because, out_of_range, in_its_range}
use Rattle.reasons.proofs.why.Goals as goal

last : (found : Option Reason) → unwrap_or found NoGreaterTotal ≡ or_last found
last None = refl
last (Some reason) = refl

pub returns-in_err-check : goal.returns-in_err-check
returns-in_err-check c = let p = err_from_is_err_and c.from_residual.result c.from_residual.ensures.1 in rw (p.1, p.2) (refused_as _ _ c.in_err-check.ensures)

pub returns-in_default : goal.returns-in_default
returns-in_default c = because c.in_ok-check.ensures (out_of_range _ _ _ _ c.in_default.ensures)

pub returns : goal.returns
returns c =
    let found = rw c.in-Some.ensures.0 at c.hindrance.ensures in
    because c.in_ok-check.ensures (in_its_range _ _ _ _ c.in-Some.ensures.1 (c.unwrap_or.ensures ∙ last c.hindrance.result ∙ ap or_last found))
