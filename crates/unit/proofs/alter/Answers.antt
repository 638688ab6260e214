-- `unit::alter` meets its contract.
use Rattle.std.proofs.lemmas.Result.{err_from_is_err_and}
use Rattle.rules.specs.Calls.{alter_of}
use Rattle.unit.proofs.Settled.{refused, accepted}
use Rattle.unit.proofs.alter.Goals as goal

pub returns-in_err-check : goal.returns-in_err-check
unfolding alter_of
returns-in_err-check c =
    let k = err_from_is_err_and c.from_residual.result c.from_residual.ensures.1 in
    rw (k.1, k.2) (refused _ _ _ _ _ c.in_err-check.ensures)

pub returns : goal.returns
unfolding alter_of
returns c = rw (c.plan_anew.ensures, c.edit.ensures) (accepted _ _ _ _ c.in_ok-check.ensures)
