-- A file that loads as a district, into a station in any state; and so the district's own file.
use Prim.Native.Nat.{ℕ, ◌≤◌}
use mathlib.Core.Path.{◌≡◌, refl, ap₂, ◌∙◌}
use mathlib.Core.Bool.{Bool, true, false, not, ◌&&◌}
use mathlib.Core.List.{List}
use native.Mathlib.Omega.{arith}
use borrow.Author.Tests.{le-leb}
use lib.Dec.{leb}
use Rattle.base.specs.Choice.{pick}
use Rattle.rules.specs.District.{District, segments_of, same_tables}
use Rattle.rules.specs.File.{encode}
use Rattle.rules.specs.Answers.{tables_in_use, unless, answer_of, accepting, Accepted}
use Rattle.rules.specs.Calls.{load_refusal, district_in, unit_with, unit_of, answered, load_of}
use Rattle.rules.specs.Lists.{Load, refusal_of, outcome_of}
use Rattle.rules.specs.Offices.{Held, OfficeCall, Plan, office_refusal, office_outcome}
use Rattle.rules.specs.Stations.{other, Both, own, together, call_by, brings_tables, tables_refusal, refusal_beside, with_tables, held_beside, beside, refused_all, concluded, station_outcome}
use Rattle.rules.specs.StationDemands.{Reloads}
use Rattle.demands.proofs.stations.Calls.{concluded_by}
use Rattle.rules.specs.declared.Which.{Which}

module _ (file : List ℕ) (d : District) (loads : load_refusal file ≡ 0) (back : district_in file ≡ d) where
  abbrev load : OfficeCall
  load = Plan (Load file)

  -- by whether the tables are those held, and how many segments the other has
  refusal :
      (o p : Held) (t : Bool) (n : ℕ) → same_tables o.unit.district d ≡ t → segments_of p.unit.district ≡ n
      → refusal_beside o p load ≡ unless (not (not t && leb 1 n)) tables_in_use 0
  unfolding refusal_beside office_refusal refusal_of tables_refusal brings_tables
  refusal o p t n e f = rw (loads, back, e, f)

  own_outcome : (o : Held) → office_outcome o load ≡ record { answer = Accepted 0; held = record { unit = unit_of d; heard = o.heard }; bytes = file }
  unfolding office_outcome outcome_of load_of answered unit_of answer_of accepting
  own_outcome o = rw (loads, back)

  other_held : (o p : Held) (t : Bool) → same_tables o.unit.district d ≡ t → held_beside o p load ≡ pick (not t) (with_tables d p) p
  unfolding held_beside brings_tables unit_of unit_with
  other_held o p t e = rw (own_outcome o, back, e)

  module _ (b : Both Held) (w : Which) where
    abbrev o : Held
    o = own w b

    abbrev p : Held
    p = own (other w) b

    loaded :
        (rest : Held) → refusal_beside o p load ≡ 0 → held_beside o p load ≡ rest
        → station_outcome b (call_by w load)
        ≡ record { answer = Accepted 0; held = together w (record { unit = unit_of d; heard = o.heard }) rest; bytes = file }
    unfolding concluded
    loaded rest e f = concluded_by w b load 0 e ∙ ap₂ (beside w) f (own_outcome o)

    -- tables that are held already
    pub load_same :
        same_tables o.unit.district d ≡ true
        → station_outcome b (call_by w load)
        ≡ record { answer = Accepted 0; held = together w (record { unit = unit_of d; heard = o.heard }) p; bytes = file }
    load_same e = loaded p (refusal o p true (segments_of p.unit.district) e refl) (other_held o p true e)

    -- other tables, beside an office without segments,
    pub load_alone :
        same_tables o.unit.district d ≡ false → segments_of p.unit.district ≡ 0
        → station_outcome b (call_by w load)
        ≡ record { answer = Accepted 0; held = together w (record { unit = unit_of d; heard = o.heard }) (with_tables d p); bytes = file }
    load_alone e f = loaded (with_tables d p) (refusal o p false 0 e f) (other_held o p false e)

    -- and beside one with segments
    pub load_in_use :
        same_tables o.unit.district d ≡ false → ¬ (segments_of p.unit.district ≡ 0)
        → station_outcome b (call_by w load) ≡ refused_all tables_in_use b load
    unfolding concluded
    load_in_use e some =
        let n = segments_of p.unit.district in
        let l : 1 ≤ n = omega arith in
        concluded_by w b load tables_in_use (refusal o p false n e refl ∙ rw (le-leb 1 n l))

-- the district's own file, where it gives the district back
pub reloads : (d : District) → load_refusal (encode d) ≡ 0 → district_in (encode d) ≡ d → (b : Both Held) (w : Which) → Reloads d b w
reloads d loads back b w =
    record {
      same = load_same (encode d) d loads back b w;
      alone = load_alone (encode d) d loads back b w;
      in_use = load_in_use (encode d) d loads back b w;
    }
