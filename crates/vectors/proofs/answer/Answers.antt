-- `vectors::answer` meets its contract.
use mathlib.Core.Path.{refl}
use Rattle.rules.specs.Answers.{answer_in}
use Rattle.rules.specs.Desks.{desk_after}
use Rattle.script.specs.Script.{entries_of, events_of}
use Rattle.listing.specs.Listing.{planned}
use Rattle.station.proofs.Numbers.{which_named, none_named, of_unit}
use Rattle.vectors.specs.Worked.{worked_for, worked}
use Rattle.vectors.proofs.answer.Goals as goal

pub returns-in-Ok : goal.returns-in-Ok
unfolding worked_for worked
returns-in-Ok c =
    let run = c.run-ran in
    let answer = answer_in run.result.answer in
    let held = (desk_after (events_of (entries_of c.args.script.now))).held in
    let told = of_unit (planned answer) (λ w. worked_for w held answer) run.result.desk.station run.result.office c.in-Ok.w
    (which_named _ _ c.in-Ok.ensures) c.own.result.now c.own.ensures held run.ensures.after.station (λ w. refl) in
    rw (← run.ensures.last, ← run.ensures.named, ← told) c.put_planned.ensures

pub returns-in-Err : goal.returns-in-Err
unfolding worked_for worked
returns-in-Err c =
    let none = none_named c.run-ran.result.office c.in-Err.refusal c.in-Err.ensures in
    rw (← c.run-ran.ensures.named, none.0) (rw none.1 at c.put_refusal.ensures)
