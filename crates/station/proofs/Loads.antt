-- A load of office w: by its file's refusal, and where there is none by the tables that it brings.
use Prim.Native.Nat.{ℕ, suc, ◌-◌}
use mathlib.Core.Path.{◌≡◌, refl, sym, ap, ◌∙◌}
use mathlib.Core.Bool.{true, false}
use mathlib.Core.List.{List}
use Rattle.rules.specs.District.{District, segments_of, shared_tables, same_tables}
use Rattle.rules.specs.Answers.{tables_in_use, refusal_number, Accepted, Refused}
use Rattle.rules.specs.Calls.{load_refusal, district_in, unit_with, unit_of}
use Rattle.rules.specs.Lists.{Load, refusal_of}
use Rattle.rules.specs.Offices.{OfficeCall, Plan, office_refusal, OfficeOutcome}
use Rattle.rules.specs.Stations.{other, own, office_number, refusal_beside, with_tables}
use Rattle.rules.specs.declared.Unit.{Unit}
use Rattle.office.specs.declared.Office.{Office}
use Rattle.demands.proofs.stations.Calls.{refusal_by}
use Rattle.demands.proofs.stations.EveryStationAnswer.{every_station_answer}
use Rattle.demands.proofs.stations.Reloads.{load_same, load_alone, load_in_use}
use Rattle.station.specs.Kept.{office_in, units_in, PlansBoth}
use Rattle.station.specs.declared.Station.{Station}
use Rattle.station.proofs.Replies.{named_refused, plans}
use Rattle.station.proofs.Units.{parts, unit_in}
use Rattle.rules.specs.declared.Which.{Which}
use Rattle.rules.specs.declared.refusals.Refusal.{Refusal}
use Rattle.unit.proofs.Settled.{not_none}

module _ (s : Station) (n : ℕ) (w : Which) (named : n ≡ office_number w) (file : List ℕ) where
  abbrev load : OfficeCall
  load = Plan (Load file)

  -- the file is refused
  pub file_refused :
      (e : Refusal) → refusal_number e ≡ load_refusal file → PlansBoth s n (Load file) (record { answer = Refused (refusal_number e); station = s })
  unfolding refusal_beside office_refusal refusal_of
  file_refused e is =
      let some : load_refusal file ≡ suc (refusal_number e - 1) = sym is ∙ not_none e in
      rw (not_none e)
      (named_refused s n w named (Load file) _ ((every_station_answer (units_in s) load).refused w _ (refusal_by w (units_in s) load ∙ rw some)))

  module _ (d : District) (loads : load_refusal file ≡ 0) (back : district_in file ≡ d) where
    abbrev held : District
    held = (office_in w s).unit.district

    abbrev beside_held : District
    beside_held = (office_in (other w) s).unit.district

    district_in_lem : (v : Which) → (office_in v s).unit.district ≡ (own v (units_in s)).unit.district
    district_in_lem v = ap (λ (u : Unit). u.district) (unit_in v s)

    -- as the office then stands
    abbrev loaded_in : Office
    loaded_in = record { unit = unit_of d; window = (office_in w s).window }

    abbrev accepted : OfficeOutcome
    accepted = record { answer = Accepted 0; held = record { unit = unit_of d; heard = (own w (units_in s)).heard }; bytes = file }

    -- it brings the tables that are held,
    pub brings_same :
        same_tables held d ≡ true → (t : Station) → office_in w t ≡ loaded_in → office_in (other w) t ≡ office_in (other w) s
        → PlansBoth s n (Load file) (record { answer = Accepted 0; station = t })
    brings_same same t e f =
        plans s n w named (Load file) (record { answer = Accepted 0; station = t }) accepted (own (other w) (units_in s))
        (load_same file d loads back (units_in s) w (rw (district_in_lem w) at same))
        refl e (f ∙ parts (other w) s)

    -- other tables, and the other office has no segments,
    pub brings_other :
        same_tables held d ≡ false → segments_of beside_held ≡ 0 → (t : Station) → office_in w t ≡ loaded_in
        → office_in (other w) t ≡ record { unit = unit_with (office_in (other w) s).unit.choice (shared_tables d); window = (office_in (other w) s).window }
        → PlansBoth s n (Load file) (record { answer = Accepted 0; station = t })
    brings_other differ none t e f =
        plans s n w named (Load file) (record { answer = Accepted 0; station = t }) accepted (with_tables d (own (other w) (units_in s)))
        (load_alone file d loads back (units_in s) w (rw (district_in_lem w) at differ) (rw (district_in_lem (other w)) at none))
        refl e (f ∙ ap (λ (u : Unit). record { unit = unit_with u.choice (shared_tables d); window = (office_in (other w) s).window }) (unit_in (other w) s))

    -- and it has some
    pub brings_in_use :
        same_tables held d ≡ false → ¬ (segments_of beside_held ≡ 0) → PlansBoth s n (Load file) (record { answer = Refused tables_in_use; station = s })
    brings_in_use differ some =
        named_refused s n w named (Load file) tables_in_use
        (load_in_use file d loads back (units_in s) w (rw (district_in_lem w) at differ) (λ e. some (ap segments_of (district_in_lem (other w)) ∙ e)))
