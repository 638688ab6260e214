-- `panel::load` meets its contract.
use native.Mathlib.Omega.{arith}
use Rattle.std.proofs.Common.{refl}
use Rattle.base.specs.Text.{text}
use Rattle.desk.proofs.Calls.{plan_happens}
use Rattle.panel.specs.Console.{read, unopened, unread}
use Rattle.panel.proofs.Says.{failed_length, stays, replied, turns}
use Rattle.panel.proofs.load.Goals as goal

pub put_failed-requires : goal.put_failed-requires
put_failed-requires g c = rw failed_length (omega (arith, c.requires))

pub put_failed-requires-in-Err-Read : goal.put_failed-requires-in-Err-Read
put_failed-requires-in-Err-Read g c = rw failed_length (omega (arith, c.requires))

pub returns-in-Ok : goal.returns-in-Ok
returns-in-Ok g c = λ h k. turns (replied (plan_happens _ _ _ _ c.load.ensures h k) refl c.put_done.ensures) (read _)

pub returns-in-Err-Open : goal.returns-in-Err-Open
unfolding text
returns-in-Err-Open g c = λ h k. turns (stays k c.put_failed.ensures) unopened

pub returns-in-Err-Read : goal.returns-in-Err-Read
unfolding text
returns-in-Err-Read g c = λ h k. turns (stays k c.put_failed-in-Err-Read.ensures) unread
