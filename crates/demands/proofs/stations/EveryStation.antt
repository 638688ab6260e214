-- Demands 2 and 3, of each office after any list of calls made by both. Its unit is one that calls on a unit alone lead to, so that what was shown of
-- lists of a unit's calls holds of it.
use mathlib.Core.Path.{◌≡◌, sym, ap₂, ◌∙◌}
use mathlib.Core.Bool.{true}
use mathlib.Core.List.{List}
use Rattle.rules.specs.District.{District}
use Rattle.rules.specs.File.{in_range}
use Rattle.rules.specs.Calls.{unit_with, show_of}
use Rattle.rules.specs.Lists.{Call, district_after, unit_after}
use Rattle.rules.specs.Stations.{own, StationCall, station_after, districts_after, choices_after}
use Rattle.rules.specs.Demands.{Sound, Shown}
use Rattle.rules.specs.StationDemands.{EveryStation}
use Rattle.rules.specs.declared.Unit.{Unit}
use Rattle.demands.proofs.Lists.{after, after_in}
use Rattle.demands.proofs.TheRules.{the_rules}
use Rattle.demands.proofs.OneClaim.{one_claim}
use Rattle.demands.proofs.stations.Lists.{units_after}
use Rattle.demands.proofs.stations.Heard.{heard_after_lem}
use Rattle.demands.proofs.stations.Files.{reads}
use Rattle.demands.proofs.stations.Reached.{ReachedBy, reached_by, reached_after}
use Rattle.demands.proofs.stations.Rows.{rows_after}
use Rattle.demands.proofs.stations.Reloads.{reloads}
use Rattle.rules.specs.declared.Which.{Which}

-- calls on a unit alone that lead to an office's district and choice,
led : (cs : List StationCall) (w : Which) → ReachedBy (own w (choices_after cs)) (own w (districts_after cs))
led cs w = reached_by (own w (choices_after cs)) (own w (districts_after cs)) (rows_after cs w) (reached_after cs w)

-- and so to its unit
same_unit : (cs : List StationCall) (w : Which) → (own w (station_after cs)).unit ≡ unit_after (led cs w).calls
same_unit cs w =
    let r = led cs w in
    units_after cs w ∙ ap₂ unit_with (sym r.chooses) (sym r.leads) ∙ sym (after r.calls)

-- whatever holds of district and unit after every list of a unit's calls holds of each office
pub of_each :
    (P : District → Unit → Type 0) → ((cs : List Call) → P (district_after cs) (unit_after cs))
    → (cs : List StationCall) (w : Which) → P (own w (districts_after cs)) (own w (station_after cs)).unit
of_each P h cs w = let r = led cs w in rw (same_unit cs w, ← r.leads) (h r.calls)

in_each : (cs : List StationCall) (w : Which) → in_range (own w (districts_after cs)) ≡ true
in_each cs w = of_each (λ d u. in_range d ≡ true) after_in cs w

pub every_station : EveryStation
every_station cs w =
    let r = led cs w in
    let back = reads (own w (districts_after cs)) (in_each cs w) in
    record {
      planned = units_after cs w;
      calls = r.calls;
      unit = same_unit cs w;
      district = r.leads;
      choice = r.chooses;
      rules = the_rules r.calls;
      sound = of_each (λ d u. Sound d (show_of u)) (λ c. (one_claim c).sound) cs w;
      shown = of_each (λ d u. Shown d (show_of u)) (λ c. (one_claim c).shown) cs w;
      heard = heard_after_lem w cs;
      reloaded = λ b v. reloads (own w (districts_after cs)) back.0 back.1 b v;
    }
