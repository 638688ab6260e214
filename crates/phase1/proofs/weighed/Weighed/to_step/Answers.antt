-- `phase1::Weighed::to_step` meets its contract.
use mathlib.Core.Path.{sym, ◌∙◌}
use Rattle.phase1.proofs.Reduction.{found_within, found_weakest}
use Rattle.phase1.proofs.weighed.Weighed.to_step.Goals as goal

pub returns-then-limits_hold : goal.returns-then-limits_hold
returns-then-limits_hold c = found_within _ _ _ (sym c.if-limits_hold.true ∙ c.limits_hold.ensures)

pub returns : goal.returns
returns c = found_weakest _ _ _ (sym c.if-limits_hold.false ∙ c.limits_hold.ensures) c.weakest.ensures.segment
