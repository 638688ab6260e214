-- Which office a number names.
use Prim.Native.Nat.{ℕ}
use mathlib.Core.Path.{◌≡◌, refl, ap, ◌∙◌}
use mathlib.Core.Bool.{Bool, true, false}
use Rattle.std.specs.Prelude.{Option, None, Some, Result, Ok, Err}
use Rattle.std.specs.Option.{is_some, ok_or}
use Rattle.std.specs.Result.{IsErrAnd}
use Rattle.std.proofs.lemmas.Result.{err_from_is_err_and}
use native.Mathlib.Omega.{arith}
use borrow.Author.Tests.{eqb-true}
use lib.Dec.{eqb}
use Rattle.base.specs.Choice.{pick}
use Rattle.rules.specs.Offices.{Held}
use Rattle.rules.specs.Stations.{Both, own, office_number, office_of}
use Rattle.rules.specs.declared.Unit.{Unit}
use Rattle.rules.specs.declared.Which.{Which}
use Rattle.rules.specs.declared.Which.TheVariants.{First, Second}
use Rattle.rules.specs.declared.refusals.Refusal.{Refusal}
use Rattle.rules.specs.declared.refusals.Refusal.TheVariants.{NoSuchOffice}
use Rattle.office.specs.declared.Office.{Office}
use Rattle.demands.proofs.stations.Calls.{number_named}
use Rattle.station.specs.Kept.{is_office, office_in, KeepsBoth}
use Rattle.station.specs.declared.Station.{Station}

pub some_named : (n : ℕ) (w : Which) → office_of n ≡ Some w → n ≡ office_number w
some_named n w e = go (eqb n 1) refl (eqb n 2) refl e
  where
    go : (s : Bool) → eqb n 1 ≡ s → (t : Bool) → eqb n 2 ≡ t → pick s (Some First) (pick t (Some Second) None) ≡ Some w → n ≡ office_number w
    go true p t q e = let f : w ≡ First = cc in rw f (eqb-true n 1 p)
    go false p true q e = let f : w ≡ Second = cc in rw f (eqb-true n 2 q)
    go false p false q e = cc

module _ (n : ℕ) (w : Which) (named : n ≡ office_number w) where
  pub named_some : office_of n ≡ Some w
  named_some = ap office_of named ∙ number_named w

  pub named_office : is_office n ≡ true
  unfolding is_office
  named_office = ap is_some named_some

-- by the code's conversion: the office that has the number, or that none has it
module _ (n : ℕ) where
  pub which_named : (w : Which) → Ok w ≡ ok_or (office_of n) NoSuchOffice → n ≡ office_number w
  which_named w e = some_named n w (go (office_of n) e)
    where
      go : (o : Option Which) → Ok w ≡ ok_or o NoSuchOffice → o ≡ Some w
      go None e = cc
      go (Some v) e = cc

  pub none_named : (e : Refusal) → Err e ≡ ok_or (office_of n) NoSuchOffice → (office_of n ≡ None) × (e ≡ NoSuchOffice)
  none_named e named = go (office_of n) named
    where
      go : (o : Option Which) → Err e ≡ ok_or o NoSuchOffice → (o ≡ None) × (e ≡ NoSuchOffice)
      go None f = (refl, cc)
      go (Some w) f = cc

  -- its refusal is handed on
  pub nobody :
      {T : Type 0} (e : Refusal) (r : Result T Refusal) → Err e ≡ ok_or (office_of n) NoSuchOffice → IsErrAnd r (λ x. x ≡ e)
      → (r ≡ Err NoSuchOffice) × (office_of n ≡ None)
  nobody e r named handed =
      let k = err_from_is_err_and r handed in
      let none = none_named e named in
      (rw (k.1, k.2, none.1), none.0)

-- what the check takes from a conversion, where a crate above names an office
pub ruleset naming = (which_named, none_named, named_some)

-- a number names one office only
pub for_named : (P : Which → Type 0) (n : ℕ) (w : Which) → n ≡ office_number w → P w → (v : Which) → n ≡ office_number v → P v
for_named P n First e p First f = p
for_named P n First e p Second f = absurd (omega arith)
for_named P n Second e p First f = absurd (omega arith)
for_named P n Second e p Second f = p

-- what is made of the unit of the office that the code takes is made of what that office holds
pub of_unit :
    {A : Type 0} (f : Unit → A) (to : Option Which → A) (s : Station) (n : ℕ) (w : Which) → n ≡ office_number w → (o : Office) → o ≡ office_in w s
    → (b : Both Held) → KeepsBoth s b → ((v : Which) → f (own v b).unit ≡ to (Some v)) → f o.unit ≡ to (office_of n)
of_unit f to s n w named o is b keeps made =
    rw (named_some n w named, is) (ap f (keeps w).unit ∙ made w)
