-- `panel::choose` meets its contract.
use Rattle.std.proofs.Common.{refl, ap, arith}
use Rattle.base.specs.Text.{text}
use Rattle.desk.proofs.Calls.{plan_happens}
use Rattle.panel.specs.Console.{said_row, after_row}
use Rattle.panel.proofs.ByEvents.{few_resources}
use Rattle.panel.proofs.Says.{parts_kept, stays, replied}
use Rattle.rules.specs.District.{resources_of}
use Rattle.office.specs.declared.Office.{Office}
use Rattle.rules.specs.declared.Which.TheVariants.{First}
use Rattle.panel.proofs.choose.Goals as goal

pub overflow_add-parts : goal.overflow_add-parts
overflow_add-parts c =
    let few = few_resources c.requires First in
    let own = ap (λ (o : Office). resources_of o.unit.district) c.own.ensures in
    omega (arith, few, own)

pub returns-in-Some : goal.returns-in-Some
unfolding said_row after_row
returns-in-Some c =
    λ h k. let row = rw (parts_kept k c.own.ensures) at c.in-Some.ensures in
    let read = c.as_slice.ensures.value in
    rw row (replied (plan_happens _ _ _ _ (rw read at c.choose.ensures) h k) refl c.put_done.ensures)

pub returns-in-None : goal.returns-in-None
unfolding said_row after_row text
returns-in-None c =
    λ h k. let none = rw (parts_kept k c.own.ensures) at c.in-None.ensures in
    rw none (stays k c.put.ensures)
