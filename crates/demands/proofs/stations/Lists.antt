-- After any list of calls made by both: each office's unit is the one of its district and of the blocks that it chose, which follow from the calls of
-- both.
use Prim.Native.Nat.{ℕ, zero, suc}
use mathlib.Core.Path.{◌≡◌, refl, sym, ap, ap₂, ◌∙◌}
use mathlib.Core.Bool.{Bool, true, false}
use mathlib.Core.List.{List, [], ◌∷◌}
use Rattle.std.specs.Prelude.{Option, None, Some}
use Rattle.base.specs.Choice.{pick}
use Rattle.rules.specs.District.{District, fresh_district, shared_tables}
use Rattle.rules.specs.Answers.{accepting}
use Rattle.rules.specs.Blocks.{no_blocks}
use Rattle.rules.specs.Calls.{unit_with, unit_of, fresh_unit}
use Rattle.rules.specs.Lists.{Call, refusal_of, altered, chosen}
use Rattle.rules.specs.Offices.{Held, fresh_held, OfficeCall, Plan, Send, AskRoughness, office_refusal, office_outcome}
use Rattle.rules.specs.Stations.{other, Both, own, together, office_of, fresh_both, StationCall, brings_tables, tables_refusal, refusal_beside, with_tables, held_beside, concluded, outcome_for, station_outcome, station_from, station_after, plan_refusal, altered_both, districts_by, districts_from, districts_after, choices_by, choices_from, choices_after}
use Rattle.rules.specs.declared.Choice.{Choice}
use Rattle.rules.specs.declared.Unit.{Unit}
use Rattle.demands.proofs.Lists.{unit_next}
use Rattle.demands.proofs.stations.Calls.{own_part, other_part, earlier_none, other_stays}
use Rattle.rules.specs.declared.Which.{Which}
use Rattle.rules.specs.declared.Which.TheVariants.{First, Second}

-- what holds of an office and of the other holds of each
pub each : (P : Which → Type 0) (w : Which) → P w → P (other w) → (v : Which) → P v
each P First p q First = p
each P First p q Second = q
each P Second p q First = q
each P Second p q Second = p

-- ---- units, districts and choices

abbrev Units : Both Held → Both District → Both Choice → Type 0
Units b ds xs = (w : Which) → (own w b).unit ≡ unit_with (own w xs) (own w ds)

module _ (w : Which) (b : Both Held) (ds : Both District) (xs : Both Choice) (units : Units b ds xs) where
  abbrev d : District
  d = own w ds

  abbrev e : District
  e = own (other w) ds

  abbrev x : Choice
  x = own w xs

  abbrev y : Choice
  y = own (other w) xs

  own_district : (own w b).unit.district ≡ d
  unfolding unit_with
  own_district = ap (λ (u : Unit). u.district) (units w)

  other_choice : (own (other w) b).unit.choice ≡ y
  unfolding unit_with
  other_choice = ap (λ (u : Unit). u.choice) (units (other w))

  -- one call of office w on its unit
  module _ (k : Call) where
    refusal_same : refusal_beside (own w b) (own (other w) b) (Plan k) ≡ plan_refusal w ds k
    unfolding refusal_beside office_refusal unit_with
    refusal_same = rw (units w, units (other w))

    abbrev after : ℕ → Both District
    after n = accepting n (altered_both w ds k) ds

    abbrev chosen_after : ℕ → Both Choice
    chosen_after n = accepting n (together w (chosen x k) y) xs

    made : refusal_of d k ≡ 0 → (office_outcome (own w b) (Plan k)).held.unit ≡ unit_with (chosen x k) (altered d k)
    unfolding office_outcome accepting
    made e = rw (units w) (unit_next x d k ∙ ap (λ (n : ℕ). unit_with (accepting n (chosen x k) x) (accepting n (altered d k) d)) e)

    own_unit : (n : ℕ) → (n ≡ 0 → refusal_of d k ≡ 0) → (own w (concluded n w b (Plan k)).held).unit ≡ unit_with (own w (chosen_after n)) (own w (after n))
    unfolding concluded accepting
    own_unit zero ok = ap (λ (h : Held). h.unit) (own_part w _ _) ∙ made (ok refl) ∙ sym (ap₂ unit_with (own_part w _ _) (own_part w _ _))
    own_unit (suc n) ok = units w

    beside_unit :
        refusal_of d k ≡ 0
        → (held_beside (own w b) (own (other w) b) (Plan k)).unit ≡ unit_with y (pick (brings_tables d (Plan k)) (shared_tables (altered d k)) e)
    unfolding held_beside unit_with
    beside_unit ok = rw own_district (go (brings_tables d (Plan k)))
      where
        go : (t : Bool)
            → (pick t (with_tables (office_outcome (own w b) (Plan k)).held.unit.district (own (other w) b)) (own (other w) b)).unit
            ≡ unit_with y (pick t (shared_tables (altered d k)) e)
        go true = rw (made ok, other_choice)
        go false = units (other w)

    other_unit :
        (n : ℕ) → (n ≡ 0 → refusal_of d k ≡ 0)
        → (own (other w) (concluded n w b (Plan k)).held).unit ≡ unit_with (own (other w) (chosen_after n)) (own (other w) (after n))
    unfolding concluded accepting
    other_unit zero ok = ap (λ (h : Held). h.unit) (other_part w _ _) ∙ beside_unit (ok refl) ∙ sym (ap₂ unit_with (other_part w _ _) (other_part w _ _))
    other_unit (suc n) ok = units (other w)

    plan_units :
        Units (concluded (refusal_beside (own w b) (own (other w) b) (Plan k)) w b (Plan k)).held (districts_by (Some w) ds (Plan k)) (choices_by (Some w) ds xs (Plan k))
    unfolding districts_by choices_by
    plan_units =
        let n = plan_refusal w ds k in
        let ok : n ≡ 0 → refusal_of d k ≡ 0 = earlier_none (refusal_of d k) (tables_refusal d e (Plan k)) in
        rw refusal_same
        (each (λ v. (own v (concluded n w b (Plan k)).held).unit ≡ unit_with (own v (chosen_after n)) (own v (after n))) w (own_unit n ok) (other_unit n ok))

  -- a call that leaves the unit as it is
  idle_units :
      (c : OfficeCall) → (office_outcome (own w b) c).held.unit ≡ (own w b).unit → brings_tables (own w b).unit.district c ≡ false
      → (n : ℕ) → Units (concluded n w b c).held ds xs
  unfolding concluded
  idle_units c idle none-brought zero =
      each (λ v. (own v (concluded 0 w b c).held).unit ≡ unit_with (own v xs) (own v ds)) w
      (rw own_part (idle ∙ units w))
      (rw (other_part, other_stays (own w b) (own (other w) b) c none-brought) (units (other w)))
  idle_units c idle none-brought (suc n) = units

  call_units :
      (c : OfficeCall)
      → Units (concluded (refusal_beside (own w b) (own (other w) b) c) w b c).held (districts_by (Some w) ds c) (choices_by (Some w) ds xs c)
  unfolding districts_by choices_by brings_tables office_outcome
  call_units (Plan k) = plan_units k
  call_units (Send s) = idle_units (Send s) refl refl (refusal_beside (own w b) (own (other w) b) (Send s))
  call_units AskRoughness = idle_units AskRoughness refl refl (refusal_beside (own w b) (own (other w) b) AskRoughness)

next_units :
    (b : Both Held) (ds : Both District) (xs : Both Choice) (c : StationCall) → Units b ds xs
    → Units (station_outcome b c).held (districts_by (office_of c.office) ds c.call) (choices_by (office_of c.office) ds xs c.call)
unfolding station_outcome districts_by choices_by
next_units b ds xs c units = go (office_of c.office)
  where
    go : (o : Option Which) → Units (outcome_for o b c.call).held (districts_by o ds c.call) (choices_by o ds xs c.call)
    go None = units
    go (Some w) = call_units w b ds xs units c.call

from_units :
    (cs : List StationCall) (b : Both Held) (ds : Both District) (xs : Both Choice) → Units b ds xs
    → Units (station_from b cs) (districts_from ds cs) (choices_from ds xs cs)
unfolding station_from districts_from choices_from
from_units [] b ds xs units = units
from_units (c ∷ cs) b ds xs units =
    from_units cs (station_outcome b c).held (districts_by (office_of c.office) ds c.call) (choices_by (office_of c.office) ds xs c.call)
    (next_units b ds xs c units)

pub units_after : (cs : List StationCall) → Units (station_after cs) (districts_after cs) (choices_after cs)
unfolding station_after districts_after choices_after fresh_both fresh_held fresh_unit unit_of
units_after cs =
    from_units cs fresh_both (record { first = fresh_district; second = fresh_district }) (record { first = no_blocks; second = no_blocks })
    (each _ First refl refl)
