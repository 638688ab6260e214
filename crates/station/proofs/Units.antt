-- A call on an office's unit sees no window: it does to both units what it does where nothing was heard, and what was heard stays.
use Prim.Native.Nat.{ℕ, zero, suc}
use mathlib.Core.Path.{◌≡◌, refl, sym, ap, ap₂, ◌∙◌}
use mathlib.Core.Bool.{Bool, true, false}
use Rattle.std.specs.Prelude.{Option, None, Some}
use Rattle.base.specs.Choice.{pick}
use Rattle.rules.specs.District.{District}
use Rattle.rules.specs.Lists.{Call, outcome_of}
use Rattle.rules.specs.Meter.{nothing_heard}
use Rattle.rules.specs.Offices.{Held, Plan, office_refusal, office_outcome}
use Rattle.rules.specs.Stations.{Both, own, call_of, office_of, brings_tables, refusal_beside, with_tables, held_beside, StationOutcome, beside, concluded, outcome_for, station_outcome}
use Rattle.rules.specs.declared.Unit.{Unit}
use Rattle.office.specs.declared.Office.{Office}
use Rattle.station.specs.Kept.{office_in, KeepsBoth, units_in}
use Rattle.station.specs.declared.Station.{Station}
use Rattle.rules.specs.declared.Which.{Which}
use Rattle.rules.specs.declared.Which.TheVariants.{First, Second}

-- ---- of what both hold

abbrev mute : Held → Held
mute p = record { unit = p.unit; heard = nothing_heard }

-- b, as if nothing was heard; and an outcome, with what b heard
abbrev pub silent : Both Held → Both Held
silent b = record { first = mute b.first; second = mute b.second }

abbrev pub with_heard : Both Held → StationOutcome → StationOutcome
with_heard b x =
    record {
      answer = x.answer;
      held =
          record {
            first = record { unit = x.held.first.unit; heard = b.first.heard };
            second = record { unit = x.held.second.unit; heard = b.second.heard };
          };
      bytes = x.bytes;
    }

-- the office that is not named, by whether other tables come to it
other_heard :
    (t : Bool) (d : District) (p : Held) → pick t (with_tables d p) p ≡ record { unit = (pick t (with_tables d (mute p)) (mute p)).unit; heard = p.heard }
other_heard true d p = refl
other_heard false d p = refl

beside_heard :
    (o p : Held) (c : Call) → held_beside o p (Plan c) ≡ record { unit = (held_beside (mute o) (mute p) (Plan c)).unit; heard = p.heard }
unfolding held_beside office_outcome
beside_heard o p c = other_heard (brings_tables o.unit.district (Plan c)) (outcome_of o.unit c).unit.district p

module _ (b : Both Held) (c : Call) where
  concluded_heard : (w : Which) (n : ℕ) → concluded n w b (Plan c) ≡ with_heard b (concluded n w (silent b) (Plan c))
  unfolding concluded office_outcome
  concluded_heard First zero = ap (λ (p : Held). beside First p (office_outcome b.first (Plan c))) (beside_heard b.first b.second c)
  concluded_heard Second zero = ap (λ (p : Held). beside Second p (office_outcome b.second (Plan c))) (beside_heard b.second b.first c)
  concluded_heard w (suc n) = refl

  by_heard : (w : Which) → outcome_for (Some w) b (Plan c) ≡ with_heard b (outcome_for (Some w) (silent b) (Plan c))
  unfolding refusal_beside office_refusal
  by_heard First = concluded_heard First (refusal_beside b.first b.second (Plan c))
  by_heard Second = concluded_heard Second (refusal_beside b.second b.first (Plan c))

  pub outcome_heard : (n : ℕ) → station_outcome b (call_of n (Plan c)) ≡ with_heard b (station_outcome (silent b) (call_of n (Plan c)))
  unfolding station_outcome
  outcome_heard n = go (office_of n)
    where
      go : (o : Option Which) → outcome_for o b (Plan c) ≡ with_heard b (outcome_for o (silent b) (Plan c))
      go None = refl
      go (Some w) = by_heard w

-- ---- of a station

-- an office is its unit and its window
pub parts : (w : Which) (s : Station) → office_in w s ≡ record { unit = (own w (units_in s)).unit; window = (office_in w s).window }
parts First s = refl
parts Second s = refl

pub unit_in : (w : Which) (s : Station) → (office_in w s).unit ≡ (own w (units_in s)).unit
unit_in w s = ap (λ (o : Office). o.unit) (parts w s)

module _ (s : Station) (b : Both Held) (keeps : KeepsBoth s b) where
  pub units_kept : units_in s ≡ silent b
  units_kept =
      ap₂ (λ (u v : Unit). record { first = record { unit = u; heard = nothing_heard }; second = record { unit = v; heard = nothing_heard } })
      (keeps First).unit (keeps Second).unit

  pub planned_kept : (n : ℕ) (c : Call) → station_outcome b (call_of n (Plan c)) ≡ with_heard b (station_outcome (units_in s) (call_of n (Plan c)))
  planned_kept n c = outcome_heard b c n ∙ ap (λ (u : Both Held). with_heard b (station_outcome u (call_of n (Plan c)))) (sym units_kept)
