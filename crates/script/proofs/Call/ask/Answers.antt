-- `script::Call::ask` meets its contract.
use Rattle.desk.proofs.Calls.{plan_happens, send_happens}
use Rattle.script.specs.Script.{commanded}
use Rattle.script.proofs.Calls.{shown_else}
use Rattle.script.proofs.Call.ask.Goals as goal

pub returns-in-Load : goal.returns-in-Load
unfolding commanded
returns-in-Load c = rw c.in-Load.is (plan_happens _ _ _ _ c.load.ensures)

pub returns-in-Alter : goal.returns-in-Alter
unfolding commanded
returns-in-Alter c = rw c.in-Alter.is (plan_happens _ _ _ _ c.alter.ensures)

pub returns-in-Send : goal.returns-in-Send
unfolding commanded
returns-in-Send c = rw c.in-Send.is (send_happens _ _ _ _ c.send.ensures)

pub returns-in_default : goal.returns-in_default
returns-in_default c =
    let k = c.in_default in
    let a = c.args.self.now in
    rw (shown_else a.command a.first a.body.now k.not-Load k.not-Export k.not-Alter k.not-Page k.not-Why k.not-Send k.not-Roughness k.not-Blocks) c.shown.ensures
