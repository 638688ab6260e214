-- `meter::start` meets its contract.
use Rattle.std.proofs.Common.{refl}
use lib.Ieee.{of_bits}
use Rattle.rules.specs.Meter.{nothing_heard, heard_with, heard_after}
use Rattle.meter.proofs.Windows.{run_holds}
use Rattle.meter.proofs.start.Goals as goal

pub returns : goal.returns
unfolding nothing_heard heard_with heard_after of_bits
returns c = let H = c.empty.ensures nothing_heard refl in record { start = H; run = λ ss. run_holds _ nothing_heard ss H }
