-- Laws of one call of a station: whose it is, what refuses it, and what it leaves of both offices.
use Prim.Native.Nat.{ℕ, zero, suc}
use mathlib.Core.Path.{◌≡◌, refl, ap, ◌∙◌}
use mathlib.Core.Bool.{Bool, true, false, not, ◌&&◌, and-false}
use mathlib.Core.List.{[], ◌∷◌}
use Rattle.std.specs.Prelude.{None, Some}
use borrow.Author.Tests.{eqb-true}
use lib.Dec.{leb, eqb}
use Rattle.base.proofs.Choice.{pick_all}
use Rattle.rules.specs.District.{District, segments_of, is_shared, shared_from, shared_tables}
use Rattle.rules.specs.Answers.{no_such_office, tables_in_use, unless, or_later}
use Rattle.rules.specs.Calls.{unit_with}
use Rattle.rules.specs.Offices.{Held, OfficeCall, office_refusal, office_outcome}
use Rattle.rules.specs.Stations.{other, Both, own, together, office_number, office_of, StationCall, call_by, brings_tables, tables_refusal, refusal_beside, with_tables, held_beside, station_refusal, concluded, refused_all, station_outcome}
use Rattle.rules.specs.declared.Which.{Which}
use Rattle.rules.specs.declared.Which.TheVariants.{First, Second}

-- ---- whose a call is

pub number_named : (w : Which) → office_of (office_number w) ≡ Some w
number_named First = refl
number_named Second = refl

pub named : (w : Which) (n : ℕ) → eqb n (office_number w) ≡ true → office_of n ≡ Some w
named First n e = rw e
named Second n e = rw (eqb-true n 2 e)

pub neither : (w : Which) (n : ℕ) → eqb n (office_number w) ≡ false → eqb n (office_number (other w)) ≡ false → office_of n ≡ None
neither First n p q = rw (p, q)
neither Second n p q = rw (q, p)

pub one_office : (w : Which) (n : ℕ) → eqb n (office_number w) ≡ true → eqb n (office_number (other w)) ≡ false
one_office First n e = rw (eqb-true n 1 e)
one_office Second n e = rw (eqb-true n 2 e)

-- ---- parts

pub own_part : {A : Type 0} (w : Which) (x y : A) → own w (together w x y) ≡ x
own_part First x y = refl
own_part Second x y = refl

pub other_part : {A : Type 0} (w : Which) (x y : A) → own (other w) (together w x y) ≡ y
other_part First x y = refl
other_part Second x y = refl

-- the shared tables alone have no segment
pub no_segments_lem : (d : District) → segments_of (shared_tables d) ≡ 0
unfolding shared_tables shared_from is_shared
no_segments_lem [] = refl
no_segments_lem (x ∷ d) = refl

-- ---- what refuses a call beside the other office

or_none : (n : ℕ) → or_later n 0 ≡ n
or_none zero = refl
or_none (suc n) = refl

-- where there is no refusal, there was none before (convert, which does not stand on this, has it in a law of its own)
pub earlier_none : (n m : ℕ) → or_later n m ≡ 0 → n ≡ 0
earlier_none zero m e = refl
earlier_none (suc n) m e = e

module _ (o p : Held) (c : OfficeCall) where
  -- nothing but its own tests, where that is not 17,
  pub not_in_use_lem : eqb (refusal_beside o p c) tables_in_use ≡ false → refusal_beside o p c ≡ office_refusal o c
  unfolding refusal_beside tables_refusal
  not_in_use_lem e = go (office_refusal o c) (brings_tables o.unit.district c && leb 1 (segments_of p.unit.district)) e
    where
      go : (n : ℕ) (t : Bool) → eqb (or_later n (unless (not t) tables_in_use 0)) tables_in_use ≡ false → or_later n (unless (not t) tables_in_use 0) ≡ n
      go zero true e = cc
      go zero false e = refl
      go (suc n) t e = refl

  -- where the other has no segments,
  pub beside_none : segments_of p.unit.district ≡ 0 → refusal_beside o p c ≡ office_refusal o c
  unfolding refusal_beside tables_refusal
  beside_none e = rw (e, and-false) (or_none (office_refusal o c))

  -- and where it brings no other tables
  pub brings_none : brings_tables o.unit.district c ≡ false → refusal_beside o p c ≡ office_refusal o c
  unfolding refusal_beside tables_refusal
  brings_none e = rw e (or_none (office_refusal o c))

  -- where nothing refuses it, its own tests do not
  pub own_accepts : refusal_beside o p c ≡ 0 → office_refusal o c ≡ 0
  unfolding refusal_beside
  own_accepts e = earlier_none (office_refusal o c) (tables_refusal o.unit.district p.unit.district c) e

  -- ---- what is left of the other

  pub other_stays : brings_tables o.unit.district c ≡ false → held_beside o p c ≡ p
  unfolding held_beside
  other_stays e = rw e

  pub other_empty : segments_of p.unit.district ≡ 0 → segments_of (held_beside o p c).unit.district ≡ 0
  unfolding held_beside unit_with
  other_empty e =
      let d = (office_outcome o c).held.unit.district in
      pick_all (λ (h : Held). segments_of h.unit.district ≡ 0) (brings_tables o.unit.district c) (with_tables d p) p (no_segments_lem d) e

  pub other_window : (held_beside o p c).heard ≡ p.heard
  unfolding held_beside
  other_window =
      pick_all (λ (h : Held). h.heard ≡ p.heard) (brings_tables o.unit.district c) (with_tables (office_outcome o c).held.unit.district p) p refl refl

-- ---- all that a call does

pub outcome_nobody : (b : Both Held) (c : StationCall) → office_of c.office ≡ None → station_outcome b c ≡ refused_all no_such_office b c.call
unfolding station_outcome
outcome_nobody b c e = rw e

pub outcome_of_lem :
    (w : Which) (b : Both Held) (c : StationCall) → office_of c.office ≡ Some w
    → station_outcome b c ≡ concluded (refusal_beside (own w b) (own (other w) b) c.call) w b c.call
unfolding station_outcome
outcome_of_lem w b c e = rw e

pub refusal_of_lem :
    (w : Which) (b : Both Held) (c : StationCall) → office_of c.office ≡ Some w
    → station_refusal b c ≡ refusal_beside (own w b) (own (other w) b) c.call
unfolding station_refusal
refusal_of_lem w b c e = rw e

-- ---- a call of office w

module _ (w : Which) (b : Both Held) (c : OfficeCall) where
  pub refusal_by : station_refusal b (call_by w c) ≡ refusal_beside (own w b) (own (other w) b) c
  refusal_by = refusal_of_lem w b (call_by w c) (number_named w)

  pub concluded_by : (n : ℕ) → refusal_beside (own w b) (own (other w) b) c ≡ n → station_outcome b (call_by w c) ≡ concluded n w b c
  concluded_by n e = outcome_of_lem w b (call_by w c) (number_named w) ∙ ap (λ (m : ℕ). concluded m w b c) e
