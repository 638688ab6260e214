-- `station::fresh` meets its contract.
use Rattle.rules.specs.Stations.{own, fresh_both}
use Rattle.office.specs.Kept.{Keeps}
use Rattle.demands.proofs.stations.EachOffice.{each_office}
use Rattle.demands.proofs.stations.EveryStation.{every_station}
use Rattle.demands.proofs.stations.EveryStationAnswer.{every_station_answer}
use Rattle.demands.proofs.stations.EveryStationFile.{every_station_file}
use Rattle.demands.proofs.stations.LeavingOut.{leaving_out}
use Rattle.demands.proofs.stations.Lists.{each}
use Rattle.demands.proofs.stations.TablesAgree.{tables_agree}
use Rattle.station.specs.Kept.{office_in}
use Rattle.rules.specs.declared.Which.TheVariants.{First}
use Rattle.station.proofs.fresh.Goals as goal

pub returns : goal.returns
unfolding fresh_both
returns c =
    let k = c.fresh-office.ensures.start in
    let o = c.fresh-office.result in record { start = each (λ w. Keeps (office_in w (record { first = o; second = o })) (own w fresh_both)) First k k; settled = every_station_answer; files = every_station_file; claim = every_station; tables = tables_agree; alone = leaving_out; each = each_office }
