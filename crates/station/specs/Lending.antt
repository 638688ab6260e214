-- What becomes of a station whose office is lent to a call: the other office stays.
use Rattle.std.specs.Borrow.{Lends, MutBor, Fml}
use Rattle.rules.specs.declared.Which.{Which}
use Rattle.office.specs.contracts.Office.{the_row as office_row}
use Rattle.office.specs.declared.Office.{Office}
use Rattle.station.specs.Kept.{with_office}
use Rattle.station.specs.contracts.Station.{the_row}
use Rattle.station.specs.declared.Station.{Station}

abbrev pub LendsOffice : MutBor Station → Which → MutBor Office → Fml
LendsOffice s w lent = Lends the_row office_row s lent (with_office w s.now)
