-- `panel::start` meets its contract.
use mathlib.Core.Path.{refl}
use Rattle.panel.proofs.start.Goals as goal

pub returns : goal.returns
returns c = record { desk = c.fresh.ensures.start; office = refl }
