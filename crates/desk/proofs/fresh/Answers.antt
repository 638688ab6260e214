-- `desk::fresh` meets its contract.
use Rattle.rules.specs.Desks.{fresh_desk}
use Rattle.demands.proofs.desks.CarriedInTime.{carried_in_time}
use Rattle.demands.proofs.desks.EachOffice.{each_office_served}
use Rattle.demands.proofs.desks.EveryArrival.{every_arrival}
use Rattle.demands.proofs.desks.EveryCall.{every_call}
use Rattle.demands.proofs.desks.EveryDesk.{every_desk}
use Rattle.demands.proofs.desks.EveryRun.{every_run}
use Rattle.demands.proofs.desks.EveryStep.{every_step}
use Rattle.demands.proofs.desks.NobodyStarves.{nobody_starves}
use Rattle.demands.proofs.desks.OnceInOrder.{once_in_order}
use Rattle.desk.proofs.fresh.Goals as goal

pub returns : goal.returns
unfolding fresh_desk
returns c = record { start = record { station = c.fresh.ensures.start; queues = c.default.ensures }; calls = every_call; arrivals = every_arrival; steps = every_step; order = once_in_order; served = nobody_starves; time = carried_in_time; runs = every_run; claim = every_desk; each = each_office_served }
