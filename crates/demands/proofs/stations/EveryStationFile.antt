-- Each file that an office loads comes back as it does from a unit that loads it.
use Prim.Native.Nat.{ℕ}
use mathlib.Core.Path.{◌≡◌, refl, ap, ◌∙◌}
use mathlib.Core.List.{List}
use Rattle.rules.specs.Format.{plain_form}
use Rattle.rules.specs.File.{encode_as}
use Rattle.rules.specs.Calls.{load_refusal, district_in, load_of, Export, export_of}
use Rattle.rules.specs.Lists.{Load, ExportTo, refusal_of, written, outcome_of}
use Rattle.rules.specs.Offices.{Held, Plan, office_refusal, planned, office_outcome}
use Rattle.rules.specs.Stations.{other, Both, own, call_by, brings_tables, held_beside, station_refusal, StationOutcome}
use Rattle.rules.specs.StationDemands.{load_by, back_to, file_from, EveryStationFile}
use Rattle.rules.specs.Demands.{file_in}
use Rattle.rules.specs.declared.Unit.{Unit}
use Rattle.demands.proofs.EveryFile.{every_file}
use Rattle.demands.proofs.stations.Calls.{own_part}
use Rattle.demands.proofs.stations.EveryStationAnswer.{accepted_outcome, own_accepted, both_stay}
use Rattle.rules.specs.declared.Which.{Which}

module _ (b : Both Held) (w : Which) (file : List ℕ) (loads : station_refusal b (call_by w (Plan (Load file))) ≡ 0) where
  file_loads : load_refusal file ≡ 0
  unfolding office_refusal refusal_of
  file_loads = own_accepted w b (Plan (Load file)) loads

  -- the office then holds the unit that loaded the file
  unit_loaded : (own w (load_by b w file).held).unit ≡ (load_of (own w b).unit file).unit
  unfolding office_outcome outcome_of
  unit_loaded =
      let c = Plan (Load file) in
      ap (λ (o : StationOutcome). (own w o.held).unit) (accepted_outcome w b c loads)
      ∙ ap (λ (h : Held). h.unit) (own_part w (office_outcome (own w b) c).held (held_beside (own w b) (own (other w) b) c))

  exported :
      (buffer back : List ℕ) → export_of (load_of (own w b).unit file).unit buffer ≡ file_in back buffer
      → back_to b w file buffer ≡ file_from (load_by b w file).held back buffer
  unfolding brings_tables office_outcome outcome_of
  exported buffer back e =
      let held = (load_by b w file).held in
      let x = file_in back buffer in
      both_stay w held (Plan (ExportTo buffer)) refl x.answer x.buffer
      (ap (λ (x : Export). planned (own w held).heard (written x (own w held).unit)) (ap (λ (u : Unit). export_of u buffer) unit_loaded ∙ e))

pub every_station_file : EveryStationFile
every_station_file b w file =
    record {
      same =
          λ bytes loads led buffer room.
          exported b w file loads buffer file ((every_file file).same bytes (file_loads b w file loads) led (own w b).unit buffer room);
      plain =
          λ loads led buffer room.
          exported b w file loads buffer (encode_as plain_form (district_in file))
          ((every_file file).plain (file_loads b w file loads) led (own w b).unit buffer room);
    }
