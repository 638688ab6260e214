-- `panel::obey` meets its contract.
use mathlib.Core.Path.{refl}
use Rattle.base.specs.Text.{text}
use Rattle.desk.proofs.Arrivals.{arrival_happens}
use Rattle.desk.proofs.Calls.{plan_happens, send_happens}
use Rattle.station.proofs.Questions.{why_kept}
use Rattle.panel.specs.Console.{said, after}
use Rattle.panel.proofs.Says.{stays, silent, replied, step_told}
use Rattle.panel.proofs.obey.Goals as goal

pub returns-in-Alter : goal.returns-in-Alter
unfolding said after
returns-in-Alter c = λ h k. rw c.in-Alter.is (replied (plan_happens _ _ _ _ c.alter.ensures h k) refl c.put_done.ensures)

pub returns-in-Send : goal.returns-in-Send
unfolding said after
returns-in-Send c = λ h k. rw c.in-Send.is (replied (send_happens _ _ _ _ c.send.ensures h k) refl c.put_done-in-Send.ensures)

pub returns-in-Queue : goal.returns-in-Queue
unfolding said after
returns-in-Queue c = λ h k. rw c.in-Queue.is (replied (arrival_happens _ _ _ _ c.arrive.ensures h k) refl c.put_done-in-Queue.ensures)

pub returns-in-Step : goal.returns-in-Step
returns-in-Step c = λ h k. rw c.in-Step.is (step_told c.step.result c.step.ensures k c.put_stepped.ensures)

pub returns-in-Office : goal.returns-in-Office
unfolding said after text
returns-in-Office c = λ h k. rw c.in-Office.is record { keeps = record { desk = k; office = refl }; put = c.put.ensures }

pub returns-in-Show : goal.returns-in-Show
unfolding said after
returns-in-Show c = λ h k. rw c.in-Show.is (stays k (c.show.ensures h.held k.station))

pub returns-in-Page : goal.returns-in-Page
unfolding said after
returns-in-Page c = λ h k. rw c.in-Page.is (stays k (c.page.ensures h.held k.station))

pub returns-in-Why : goal.returns-in-Why
unfolding said after
returns-in-Why c =
    λ h k. let a = c.args.c.now in
    let told = why_kept a.desk.station a.office _ _ _ c.why.ensures.tells h.held k.station in
    rw c.in-Why.is (stays k (rw told at c.put_why.ensures))

pub returns-in-Roughness : goal.returns-in-Roughness
unfolding said after
returns-in-Roughness c =
    λ h k. let told = c.roughness.ensures.tells h.held (λ w _. k.station w) in
    rw c.in-Roughness.is (stays k (rw told at c.put_roughness.ensures))

pub returns-in-Points : goal.returns-in-Points
unfolding said after text
returns-in-Points c = λ h k. rw c.in-Points.is (stays k (rw c.survey_points.ensures at c.put_valued.ensures))

pub returns-in-Unknown : goal.returns-in-Unknown
unfolding said after text
returns-in-Unknown c = λ h k. rw c.in-Unknown.is (stays k c.put-in-Unknown.ensures)

pub returns-in-Nothing : goal.returns-in-Nothing
unfolding said after
returns-in-Nothing c = λ h k. rw c.in-Nothing.is (silent k)

pub returns-in-Load : goal.returns-in-Load
unfolding said after
returns-in-Load c = λ h k. rw c.in-Load.is (silent k)

pub returns-in-Export : goal.returns-in-Export
unfolding said after
returns-in-Export c = λ h k. rw c.in-Export.is (silent k)

pub returns-in-Blocks : goal.returns-in-Blocks
unfolding said after
returns-in-Blocks c = λ h k. rw c.in-Blocks.is (silent k)
