-- What the calls of office v get does not depend on the other's, but for shared tables. Two runs go side by side, of a list and of the list without
-- the other's calls: office v's part is the same in both, and in the second the other never has segments.
use Prim.Native.Nat.{ℕ, zero, suc}
use mathlib.Core.Path.{◌≡◌, refl, sym, ap, ap₂, ◌∙◌}
use mathlib.Core.Bool.{Bool, true, false, not, ◌&&◌}
use mathlib.Core.List.{List, [], ◌∷◌}
use Rattle.std.specs.Prelude.{None, Some}
use borrow.Author.Tests.{not-true}
use lib.Dec.{eqb}
use Rattle.base.specs.Choice.{pick}
use Rattle.std.proofs.lemmas.Bool.{and_parts}
use Rattle.rules.specs.District.{segments_of, fresh_district}
use Rattle.rules.specs.Calls.{unit_with, unit_of, fresh_unit}
use Rattle.rules.specs.Offices.{Held, fresh_held, OfficeCall, office_refusal, office_outcome}
use Rattle.rules.specs.Stations.{other, Both, own, office_of, fresh_both, StationCall, brings_tables, refusal_beside, station_refusal, StationOutcome, concluded, station_outcome, made_by, without}
use Rattle.rules.specs.StationDemands.{Told, told_to, got, gets, got_from, got_by, throughout, leaves_tables, not_in_use, LeavingOut}
use Rattle.demands.proofs.stations.Calls.{named, neither, one_office, own_part, other_part, not_in_use_lem, beside_none, other_stays, other_empty, outcome_nobody, outcome_of_lem, refusal_of_lem}
use Rattle.rules.specs.declared.Which.{Which}
use Rattle.rules.specs.declared.Which.TheVariants.{First, Second}

abbrev next : Both Held → StationCall → Both Held
next b c = (station_outcome b c).held

next_nobody : (b : Both Held) (c : StationCall) → office_of c.office ≡ None → next b c ≡ b
next_nobody b c nobody = ap (λ (x : StationOutcome). x.held) (outcome_nobody b c nobody)

-- ---- a call of the other office, in the first run alone

-- whatever it is concluded with, office v's part stays
part_stays :
    (v : Which) (b : Both Held) (c : OfficeCall) (n : ℕ) → (n ≡ 0 → brings_tables (own (other v) b).unit.district c ≡ false)
    → own v (concluded n (other v) b c).held ≡ own v b
unfolding concluded
part_stays First b c zero e = other_stays b.second b.first c (e refl)
part_stays Second b c zero e = other_stays b.first b.second c (e refl)
part_stays v b c (suc n) e = refl

-- what the condition says of it
unchanged : (m t : Bool) (n : ℕ) → not (m && (eqb n 0 && t)) ≡ true → m ≡ true → n ≡ 0 → t ≡ false
unchanged m true n e p q = sym (rw (p, q) at e)
unchanged m false n e p q = refl

others_call :
    (v : Which) (b : Both Held) (c : StationCall) → made_by (other v) c ≡ true → leaves_tables (other v) b c ≡ true
    → own v (next b c) ≡ own v b
unfolding leaves_tables
others_call v b c made leaves =
    let its = named (other v) c.office made in
    ap (λ (x : StationOutcome). own v x.held) (outcome_of_lem (other v) b c its)
    ∙ part_stays v b c.call (refusal_beside (own (other v) b) (own (other (other v)) b) c.call)
    (λ e. unchanged (made_by (other v) c) (brings_tables (own (other v) b).unit.district c.call) (station_refusal b c) leaves made (refusal_of_lem (other v) b c its ∙ e))

-- ---- a call of office v, in both runs

-- office v has the same in both, and in the second the other has no segments
record Alike (v : Which) (b e : Both Held) : Type 0 where
  same : own v b ≡ own v e
  empty : segments_of (own (other v) e).unit.district ≡ 0

module _ (v : Which) (b e : Both Held) (alike : Alike v b e) where
  -- concluded alike, it gets the same, and leaves the two alike
  same_got : (n : ℕ) (c : OfficeCall) (told : Told) → got (concluded n v b c) told ≡ got (concluded n v e c) told
  unfolding concluded
  same_got zero c told = rw alike.same
  same_got (suc n) c told = refl

  same_part : (n : ℕ) (c : OfficeCall) → own v (concluded n v b c).held ≡ own v (concluded n v e c).held
  unfolding concluded
  same_part zero c = own_part v _ _ ∙ ap (λ (h : Held). (office_outcome h c).held) alike.same ∙ sym (own_part v _ _)
  same_part (suc n) c = alike.same

  stays_empty : (n : ℕ) (c : OfficeCall) → segments_of (own (other v) (concluded n v e c).held).unit.district ≡ 0
  unfolding concluded
  stays_empty zero c = rw other_part (other_empty (own v e) (own (other v) e) c alike.empty)
  stays_empty (suc n) c = alike.empty

  module _ (c : StationCall) (made : made_by v c ≡ true) (free : not_in_use v b c ≡ true) where
    -- in both runs nothing refuses it but its own tests
    its : office_of c.office ≡ Some v
    its = named v c.office made

    first_refusal_lem : refusal_beside (own v b) (own (other v) b) c.call ≡ office_refusal (own v b) c.call
    unfolding not_in_use
    first_refusal_lem = not_in_use_lem (own v b) (own (other v) b) c.call (not-true _ (rw (made, refusal_of_lem v b c its) at free))

    second_refusal : refusal_beside (own v e) (own (other v) e) c.call ≡ office_refusal (own v b) c.call
    second_refusal = rw alike.same (beside_none (own v e) (own (other v) e) c.call alike.empty)

    first_outcome : station_outcome b c ≡ concluded (office_refusal (own v b) c.call) v b c.call
    first_outcome = rw (outcome_of_lem v b c its, first_refusal_lem)

    second_outcome : station_outcome e c ≡ concluded (office_refusal (own v b) c.call) v e c.call
    second_outcome = rw (outcome_of_lem v e c its, second_refusal)

    told_same : told_to (office_of c.office) b c.call ≡ told_to (office_of c.office) e c.call
    told_same = rw (its, alike.same)

    gets_same : gets b c ≡ gets e c
    unfolding gets
    gets_same =
        let told = told_to (office_of c.office) b c.call in
        ap (λ (x : StationOutcome). got x told) first_outcome
        ∙ same_got (office_refusal (own v b) c.call) c.call told
        ∙ ap₂ got (sym second_outcome) told_same

    next_alike : Alike v (next b c) (next e c)
    next_alike =
        let n = office_refusal (own v b) c.call in
        record {
          same =
              ap (λ (x : StationOutcome). own v x.held) first_outcome
              ∙ same_part n c.call
              ∙ sym (ap (λ (x : StationOutcome). own v x.held) second_outcome);
          empty =
              ap (λ (x : StationOutcome). segments_of (own (other v) x.held).unit.district) second_outcome
              ∙ stays_empty n c.call;
        }

-- ---- lists

module _ (v : Which) (b e : Both Held) (alike : Alike v b e) (c : StationCall) where
  nobody_alike : office_of c.office ≡ None → Alike v (next b c) (next e c)
  nobody_alike nobody = rw (next_nobody b c nobody, next_nobody e c nobody) alike

  others_alike : made_by (other v) c ≡ true → leaves_tables (other v) b c ≡ true → Alike v (next b c) e
  others_alike made leaves = record { same = others_call v b c made leaves ∙ alike.same; empty = alike.empty }

  -- the first call, where the others come after it
  apart_first :
      (cs : List StationCall) → leaves_tables (other v) b c ≡ true → not_in_use v b c ≡ true
      → ((x : Both Held) → Alike v (next b c) x → got_from v x (without (other v) cs) ≡ got_from v (next b c) cs)
      → got_from v e (without (other v) (c ∷ cs)) ≡ got_from v b (c ∷ cs)
  unfolding got_from without
  apart_first cs leaves free later = go (made_by (other v) c) refl (made_by v c) refl
    where
      go : (s : Bool) → made_by (other v) c ≡ s → (t : Bool) → made_by v c ≡ t
          → got_from v e (pick s (without (other v) cs) (c ∷ without (other v) cs))
          ≡ pick t (gets b c ∷ got_from v (next b c) cs) (got_from v (next b c) cs)
      go true p true q = cc (one_office v c.office q)
      go true p false q = later e (others_alike p leaves)
      go false p true q = rw q (ap₂ ◌∷◌ (sym (gets_same v b e alike c q free)) (later (next e c) (next_alike v b e alike c q free)))
      go false p false q = rw q (later (next e c) (nobody_alike (neither v c.office q p)))

apart :
    (v : Which) (cs : List StationCall) (b e : Both Held) → Alike v b e
    → throughout (leaves_tables (other v)) b cs ≡ true → throughout (not_in_use v) b cs ≡ true
    → got_from v e (without (other v) cs) ≡ got_from v b cs
unfolding throughout got_from without
apart v [] b e alike leaves free = refl
apart v (c ∷ cs) b e alike leaves free =
    let l = and_parts (leaves_tables (other v) b c) (throughout (leaves_tables (other v)) (next b c) cs) leaves in
    let f = and_parts (not_in_use v b c) (throughout (not_in_use v) (next b c) cs) free in
    apart_first v b e alike c cs l.0 f.0 (λ x h. apart v cs (next b c) x h l.1 f.1)

pub leaving_out : LeavingOut
unfolding got_by fresh_both fresh_held fresh_unit unit_of unit_with fresh_district
leaving_out First cs leaves free = apart Second cs fresh_both fresh_both (record { same = refl; empty = refl }) leaves free
leaving_out Second cs leaves free = apart First cs fresh_both fresh_both (record { same = refl; empty = refl }) leaves free
