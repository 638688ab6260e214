-- `reasons::Question::late_hindrance` meets its contract.
use mathlib.Core.Path.{◌∙◌, ap}
use mathlib.Core.Bool.{not}
use Rattle.base.proofs.Search.{or_else_assoc}
use Rattle.rules.specs.Reasons.{holds}
use Rattle.rules.specs.declared.Reason.TheVariants.{LeaderHasNothing}
use Rattle.reasons.proofs.Searches.{given_by, or_is}
use Rattle.reasons.proofs.Question.late_hindrance.Goals as goal

pub returns : goal.returns
unfolding holds
returns c =
    or_is c.or-2.ensures (or_is c.or.ensures (given_by LeaderHasNothing c.then_some-leader.ensures (ap not c.is_led-unled.ensures)) c.over_alone.ensures) c.over_beside.ensures
    ∙ simp or_else_assoc
