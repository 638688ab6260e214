-- `desk::arrive` meets its contract.
use Rattle.station.proofs.Numbers.{which_named}
use Rattle.desk.proofs.Arrivals.{arrives}
use Rattle.desk.proofs.arrive.Goals as goal

pub returns : goal.returns
returns c = arrives _ _ _ _ (which_named _ _ c.in_ok-try_from.ensures) _ c.admit_at.ensures
