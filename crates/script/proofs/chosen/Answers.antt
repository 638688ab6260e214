-- `script::chosen` meets its contract.
use Rattle.std.proofs.Common.{◌∙◌}
use Rattle.desk.proofs.Calls.{plan_happens}
use Rattle.script.proofs.chosen.Goals as goal

pub returns : goal.returns
returns c =
    let row = c.as_slice.ensures.value ∙ c.row-row.ensures in
    plan_happens _ _ _ _ (rw row at c.choose.ensures)
