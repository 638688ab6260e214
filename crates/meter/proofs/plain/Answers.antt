-- `meter::plain` meets its contract.
use lib.Ieee.{of_bits}
use Rattle.meter.specs.Window.{unsigned}
use Rattle.meter.proofs.plain.Goals as goal

pub returns-then-x : goal.returns-then-x
unfolding unsigned of_bits
returns-then-x c = rw c.if-x.true

pub returns-else-x : goal.returns-else-x
unfolding unsigned of_bits
returns-else-x c = rw c.if-x.false
