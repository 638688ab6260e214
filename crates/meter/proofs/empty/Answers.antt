-- `meter::empty` meets its contract.
use lib.Ieee.{of_bits}
use Rattle.meter.proofs.Windows.{empty_holds}
use Rattle.meter.proofs.empty.Goals as goal

pub returns : goal.returns
unfolding of_bits
returns c = λ h e. empty_holds c.args.marker h c.args.bits e
