-- What is promised of each office after every list of calls (stations/specs/EachOffice), promised after every list of events.
use Rattle.std.specs.Prelude.{List}
use Rattle.rules.specs.Stations.{own}
use Rattle.rules.specs.Desks.{Event, desk_after}
use Rattle.rules.specs.DeskDemands.{desk_district}
use Rattle.demands.specs.stations.EachOffice.{Promised}
use Rattle.rules.specs.declared.Which.{Which}

abbrev pub EachOfficeServed : Type 0
EachOfficeServed = (es : List Event) (w : Which) → Promised (desk_district w es) (own w (desk_after es).held).unit
