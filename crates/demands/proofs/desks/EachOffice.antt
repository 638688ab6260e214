-- Ratings, pages, reasons, total and ceiling of each office after any list of events: as after the calls that the events make.
use Rattle.rules.specs.Desks.{calls_in}
use Rattle.demands.proofs.stations.EachOffice.{each_office}
use Rattle.demands.specs.desks.EachOffice.{EachOfficeServed}
use Rattle.demands.proofs.desks.EveryDesk.{held_after}

pub each_office_served : EachOfficeServed
each_office_served es w = rw (held_after es) (each_office (calls_in es) w)
