-- Demand 1, of a station in any state: a call that nothing refuses is the office's own, and any other changes nothing.
use Prim.Native.Nat.{ℕ, zero, suc}
use mathlib.Core.Path.{◌≡◌, refl, sym, ap, ◌∙◌}
use mathlib.Core.Bool.{false}
use mathlib.Core.List.{List}
use Rattle.std.specs.Prelude.{None}
use borrow.Author.Tests.{ne_eqb}
use Rattle.rules.specs.Offices.{Held, OfficeCall, office_refusal, office_outcome}
use Rattle.rules.specs.Stations.{other, Both, own, together, office_of, call_of, call_by, brings_tables, held_beside, station_refusal, StationOutcome, beside, refused_all, concluded, station_outcome}
use Rattle.rules.specs.Answers.{Answer}
use Rattle.rules.specs.StationDemands.{EveryStationAnswer}
use Rattle.demands.proofs.EveryOfficeAnswer.{every_office_answer}
use Rattle.demands.proofs.stations.Calls.{brings_none, own_accepts, other_stays, outcome_nobody, refusal_by, concluded_by}
use Rattle.rules.specs.declared.Which.{Which}
use Rattle.rules.specs.declared.Which.TheVariants.{First, Second}

module _ (w : Which) (b : Both Held) (c : OfficeCall) where
  by_refusal : (n : ℕ) → station_refusal b (call_by w c) ≡ n → station_outcome b (call_by w c) ≡ concluded n w b c
  by_refusal n e = concluded_by w b c n (sym (refusal_by w b c) ∙ e)

  pub accepted_outcome :
      station_refusal b (call_by w c) ≡ 0
      → station_outcome b (call_by w c) ≡ beside w (held_beside (own w b) (own (other w) b) c) (office_outcome (own w b) c)
  unfolding concluded
  accepted_outcome e = by_refusal 0 e

  refused_outcome : (n : ℕ) → station_refusal b (call_by w c) ≡ suc n → station_outcome b (call_by w c) ≡ refused_all (suc n) b c
  unfolding concluded
  refused_outcome n e = by_refusal (suc n) e

  -- the office's own tests pass too
  pub own_accepted : station_refusal b (call_by w c) ≡ 0 → office_refusal (own w b) c ≡ 0
  own_accepted e = own_accepts (own w b) (own (other w) b) c (sym (refusal_by w b c) ∙ e)

unnamed : (n : ℕ) → ¬ (n ≡ 1) → ¬ (n ≡ 2) → office_of n ≡ None
unnamed n p q = rw (ne_eqb n 1 p, ne_eqb n 2 q)

pub every_station_answer : EveryStationAnswer
every_station_answer b c =
    record {
      accepted = λ w e. ap (λ (x : StationOutcome). x.answer) (accepted_outcome w b c e) ∙ (every_office_answer (own w b) c).accepted (own_accepted w b c e);
      bytes = λ w e. ap (λ (x : StationOutcome). x.bytes) (accepted_outcome w b c e);
      held =
          λ w e.
          ap (λ (x : StationOutcome). x.held) (accepted_outcome w b c e)
          ∙ ap (λ (h : Held). together w h (held_beside (own w b) (own (other w) b) c)) ((every_office_answer (own w b) c).held (own_accepted w b c e));
      refused = λ w n e. refused_outcome w b c n e;
      nobody = λ n p q. outcome_nobody b (call_of n c) (unnamed n p q);
    }

-- ---- a call that brings no other tables is the office's own, and the other's part stays

pub whole : {A : Type 0} (w : Which) (b : Both A) → together w (own w b) (own (other w) b) ≡ b
whole First b = refl
whole Second b = refl

module _ (w : Which) (b : Both Held) (c : OfficeCall) where
  pub as_alone :
      brings_tables (own w b).unit.district c ≡ false → station_outcome b (call_by w c) ≡ beside w (own (other w) b) (office_outcome (own w b) c)
  unfolding concluded
  as_alone e =
      concluded_by w b c (office_refusal (own w b) c) (brings_none (own w b) (own (other w) b) c e) ∙ go (office_refusal (own w b) c) refl
    where
      go : (n : ℕ) → office_refusal (own w b) c ≡ n → concluded n w b c ≡ beside w (own (other w) b) (office_outcome (own w b) c)
      go zero f = ap (λ (h : Held). beside w h (office_outcome (own w b) c)) (other_stays (own w b) (own (other w) b) c e)
      go (suc n) f =
          sym
          (ap (beside w (own (other w) b)) ((every_office_answer (own w b) c).refused n f)
          ∙ ap (λ (h : Both Held). refused_all (suc n) h c) (whole w b))

  -- and where the office stays as it is, both do
  pub both_stay :
      brings_tables (own w b).unit.district c ≡ false → (answer : Answer) (bytes : List ℕ)
      → office_outcome (own w b) c ≡ record { answer = answer; held = own w b; bytes = bytes }
      → station_outcome b (call_by w c) ≡ record { answer = answer; held = b; bytes = bytes }
  both_stay e answer bytes out =
      as_alone e
      ∙ ap (beside w (own (other w) b)) out
      ∙ ap (λ (held : Both Held). record { answer = answer; held = held; bytes = bytes }) (whole w b)
