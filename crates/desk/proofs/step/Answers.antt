-- `desk::step` meets its contract.
use mathlib.Core.Path.{refl, sym}
use Rattle.queues.specs.Waits.{queues_in}
use Rattle.station.specs.Kept.{reply}
use Rattle.desk.proofs.Steps.{steps_idle, steps_carried}
use Rattle.desk.proofs.step.Goals as goal

pub returns-in_err-console : goal.returns-in_err-console
returns-in_err-console c =
    let none = c.in_err-console.ensures in rw (c.from_residual.ensures, none.idle) (steps_idle _ (sym none.taken))

pub returns : goal.returns
returns c =
    let t = c.in_ok-console in
    steps_carried _ (record { console = t.console; waiting = t.w; queues = queues_in c.take.new.q }) (sym t.ensures.taken) _ refl
    (reply c.alter.result c.alter.new.s) c.alter.ensures
