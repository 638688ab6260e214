-- `script::Call::queue` meets its contract.
use mathlib.Core.Path.{sym, ◌∙◌}
use Rattle.command.specs.Reading.{edit_in}
use Rattle.desk.proofs.Arrivals.{arrival_happens}
use Rattle.script.specs.Script.{queued_for}
use Rattle.script.proofs.Call.queue.Goals as goal

pub returns-in-Alter : goal.returns-in-Alter
unfolding edit_in queued_for
returns-in-Alter c = rw (sym c.read.ensures ∙ c.in-Alter.is) (arrival_happens _ _ _ _ c.arrive.ensures)
