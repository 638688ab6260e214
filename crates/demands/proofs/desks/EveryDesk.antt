-- What is promised of lists of calls, of the list that events make.
use mathlib.Core.Path.{◌≡◌, sym, ap, ◌∙◌}
use mathlib.Core.List.{List}
use Rattle.rules.specs.District.{shared_tables}
use Rattle.rules.specs.Calls.{unit_with}
use Rattle.rules.specs.Stations.{other, own, fresh_both, station_after, choices_after}
use Rattle.rules.specs.StationDemands.{got_by}
use Rattle.rules.specs.Desks.{fresh_desk, Event, desk_after, gathered, calls_in}
use Rattle.rules.specs.DeskDemands.{gives, given_to, desk_district, DeskClaim}
use Rattle.rules.specs.declared.Unit.{Unit}
use Rattle.demands.proofs.stations.EveryStation.{every_station}
use Rattle.demands.proofs.stations.LeavingOut.{leaving_out}
use Rattle.demands.proofs.stations.TablesAgree.{tables_agree}
use Rattle.demands.proofs.desks.EveryRun.{given_got, every_run}
use Rattle.demands.proofs.desks.FewWait.{few_wait}
use Rattle.rules.specs.declared.Which.{Which}
use Rattle.rules.specs.declared.Which.TheVariants.{First, Second}

module _ (es : List Event) where
  pub held_after : (desk_after es).held ≡ station_after (calls_in es)
  unfolding desk_after station_after fresh_desk
  held_after = (every_run fresh_desk es).held

  planned_after : (w : Which) → (own w (desk_after es).held).unit ≡ unit_with (own w (choices_after (calls_in es))) (desk_district w es)
  planned_after w = rw held_after (every_station (calls_in es) w).planned

  -- what the desk gives an office is what its calls get
  given_after : (w : Which) → given_to w (gathered gives fresh_desk es) ≡ got_by w (calls_in es)
  unfolding got_by fresh_desk
  given_after w = ap (given_to w) (every_run fresh_desk es).given ∙ given_got w (calls_in es) fresh_both

  -- the tables of what an office holds are those of its district
  tables_after : (w : Which) → shared_tables (own w (desk_after es).held).unit.district ≡ shared_tables (desk_district w es)
  unfolding unit_with
  tables_after w = ap (λ (u : Unit). shared_tables u.district) (planned_after w)

  pub every_desk : DeskClaim es
  every_desk =
      record {
        held = held_after;
        claim = every_station (calls_in es);
        planned = planned_after;
        sound = λ w. rw held_after (every_station (calls_in es) w).sound;
        shown = λ w. rw held_after (every_station (calls_in es) w).shown;
        tables = tables_after First ∙ tables_agree (calls_in es) ∙ sym (tables_after Second);
        alone = λ a t u. leaving_out a (calls_in es) t u ∙ sym (given_after (other a));
        few = few_wait es;
      }
