-- `unit::load` meets its contract.
use Rattle.std.proofs.lemmas.Result.{err_from_is_err_and}
use Rattle.rules.specs.Calls.{load_of}
use Rattle.unit.proofs.Settled.{refused, accepted}
use Rattle.unit.proofs.load.Goals as goal

pub returns-in_err-load : goal.returns-in_err-load
unfolding load_of
returns-in_err-load c =
    let k = err_from_is_err_and c.from_residual.result c.from_residual.ensures.1 in
    rw (k.1, k.2) (refused _ _ _ _ _ c.in_err-load.ensures.refusal)

pub returns : goal.returns
unfolding load_of
returns c = rw (c.hold.ensures, c.no_blocks.ensures, c.in_ok-load.ensures.district) (accepted _ _ _ _ c.in_ok-load.ensures.refusal)
