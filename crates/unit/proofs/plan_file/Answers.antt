-- `unit::plan_file` meets its contract: a district that loads is in range, and where no blocks are chosen, the programme of one in range is the plan for it.
use Rattle.std.proofs.lemmas.Result.{err_from_is_err_and}
use Rattle.laws.proofs.Blocks.{none_followed}
use Rattle.planner.proofs.BlockPlans.{ordinary, planned}
use Rattle.rules.specs.Blocks.{no_blocks}
use Rattle.rules.specs.Calls.{unit_with, load_of}
use Rattle.unit.proofs.Settled.{refused, accepted}
use Rattle.unit.proofs.plan_file.Goals as goal

pub returns-in_err-read : goal.returns-in_err-read
unfolding load_of
returns-in_err-read c =
    let k = err_from_is_err_and c.from_residual.result c.from_residual.ensures.1 in
    rw (k.1, k.2) (refused _ _ _ _ _ c.in_err-read.ensures.refusal)

pub returns : goal.returns
unfolding load_of unit_with
returns c =
    let read = c.in_ok-read.ensures in
    let plan = planned no_blocks _ read.ranged (ordinary _ _ (none_followed _) c.programme_of.ensures) in
    rw (plan.0, read.district) (accepted _ no_blocks _ _ read.refusal)
