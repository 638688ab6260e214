-- How a reply of an office, beside the other, is the station's, and how a call is refused.
use Prim.Native.Nat.{ℕ, zero, suc}
use mathlib.Core.Path.{◌≡◌, refl, sym, ap, ap₂, subst, ◌∙◌}
use mathlib.Core.Bool.{false}
use mathlib.Core.List.{List}
use Rattle.rules.specs.Answers.{no_such_office, answer_of, Answer, Refused}
use Rattle.rules.specs.Lists.{Call, outcome_of}
use Rattle.rules.specs.Meter.{sent_refusal}
use Rattle.rules.specs.Offices.{Held, OfficeCall, Plan, Send, lent_bytes, OfficeOutcome, office_outcome}
use Rattle.rules.specs.Stations.{other, Both, own, together, office_number, office_of, StationCall, call_of, call_by, brings_tables, StationOutcome, beside, refused_all, station_outcome}
use Rattle.rules.specs.declared.Sent.{Sent}
use Rattle.rules.specs.declared.Unit.{Unit}
use Rattle.meter.specs.declared.Window.{Window}
use Rattle.office.specs.Kept.{Keeps, OfficeReply, Plans, Sends}
use Rattle.office.specs.declared.Office.{Office}
use Rattle.demands.proofs.stations.Calls.{own_part, other_part, outcome_nobody}
use Rattle.demands.proofs.stations.EveryStationAnswer.{as_alone}
use Rattle.demands.proofs.stations.Lists.{each}
use Rattle.station.specs.Kept.{office_in, with_office, StationReply, KeepsBoth, RepliesTo, units_in, PlansBoth, Lends, SendsBoth}
use Rattle.station.specs.declared.Station.{Station}
use Rattle.station.proofs.Numbers.{named_some, named_office, for_named}
use Rattle.station.proofs.Units.{with_heard, outcome_heard, parts, unit_in, units_kept, planned_kept}
use Rattle.rules.specs.declared.Which.{Which}
use Rattle.rules.specs.declared.Which.TheVariants.{First, Second}
use Rattle.std.specs.Prelude.{None}

-- ---- from a station in any state to what both hold

pub plans_replies : (s : Station) (n : ℕ) (c : Call) (r : StationReply) → PlansBoth s n c r → RepliesTo s (call_of n (Plan c)) r
plans_replies s n c r plans b keeps =
    let out = planned_kept s b keeps n c in
    let kept : KeepsBoth r.station (with_heard b (station_outcome (units_in s) (call_of n (Plan c)))).held =
    each (λ v. Keeps (office_in v r.station) (own v (with_heard b (station_outcome (units_in s) (call_of n (Plan c)))).held)) First
    (record { unit = plans.units First; window = rw (plans.windows First) (keeps First).window })
    (record { unit = plans.units Second; window = rw (plans.windows Second) (keeps Second).window }) in
    record {
      answer = plans.answer ∙ sym (ap (λ (x : StationOutcome). x.answer) out);
      station = subst (λ (x : StationOutcome). KeepsBoth r.station x.held) (sym out) kept;
    }

-- a call that leaves the station as it is
stays_replies :
    (s : Station) (c : StationCall) (answer : Answer) (bytes : List ℕ)
    → ((b : Both Held) → KeepsBoth s b → station_outcome b c ≡ record { answer = answer; held = b; bytes = bytes })
    → RepliesTo s c (record { answer = answer; station = s })
stays_replies s c answer bytes out b keeps = record { answer = rw (out b keeps); station = rw (out b keeps) keeps }

module _ (s : Station) (n : ℕ) (c : Call) (answer : Answer) (bytes : List ℕ) (lends : Lends s n c answer bytes) where
  pub lent_outcome : (b : Both Held) → KeepsBoth s b → station_outcome b (call_of n (Plan c)) ≡ record { answer = answer; held = b; bytes = bytes }
  lent_outcome b keeps =
      outcome_heard b c n
      ∙ ap (with_heard b)
      (subst (λ (u : Both Held). station_outcome u (call_of n (Plan c)) ≡ record { answer = answer; held = u; bytes = bytes }) (units_kept s b keeps) lends)

  pub lent_replies : RepliesTo s (call_of n (Plan c)) (record { answer = answer; station = s })
  lent_replies = stays_replies s (call_of n (Plan c)) answer bytes lent_outcome

-- ---- refusals

-- where the answer is a refusal, there was one
if_refused : {A : Type 0} (n value : ℕ) {m : ℕ} → answer_of n value ≡ Refused m → ((k : ℕ) → n ≡ suc k → A) → A
unfolding answer_of
if_refused zero value e f = cc
if_refused (suc n) value e f = f n refl

-- a record of the meter: where it is refused the office stays
sent_refused : (o : Office) (s : Sent) (r : OfficeReply) → Sends o s r → (m : ℕ) → r.answer ≡ Refused m → r.office ≡ o
sent_refused o s r sends m refused =
    if_refused (sent_refusal s) 0 (sym sends.window.answer ∙ refused)
    (λ k f. ap₂ (λ (u : Unit) (w : Window). record { unit = u; window = w }) sends.unit (sends.window.refused k f))

module _ (s : Station) (n : ℕ) (c : Call) where
  refused_plans :
      (m : ℕ) → station_outcome (units_in s) (call_of n (Plan c)) ≡ refused_all m (units_in s) (Plan c)
      → PlansBoth s n c (record { answer = Refused m; station = s })
  refused_plans m out =
      record {
        answer = sym (ap (λ (x : StationOutcome). x.answer) out);
        units = λ w. unit_in w s ∙ sym (ap (λ (x : StationOutcome). (own w x.held).unit) out);
        windows = λ w. refl;
      }

  -- no office has the number
  pub nobody_plans : office_of n ≡ None → PlansBoth s n c (record { answer = Refused no_such_office; station = s })
  nobody_plans e = refused_plans no_such_office (outcome_nobody (units_in s) (call_of n (Plan c)) e)

pub nobody_sends :
    (s : Station) (n : ℕ) (sent : Sent) → office_of n ≡ None → SendsBoth s n sent (record { answer = Refused no_such_office; station = s })
nobody_sends s n sent nobody =
    record {
      reports =
          stays_replies s (call_of n (Send sent)) (Refused no_such_office) (lent_bytes (Send sent))
          (λ b keeps. outcome_nobody b (call_of n (Send sent)) nobody);
      refused = λ m e. refl;
      named = λ w e. let some = named_some n w e in cc;
      untouched = λ w e. refl;
      nobody = λ e. refl;
    }

-- ---- a station with another office

pub own_office : (w : Which) (s : Station) (o : Office) → office_in w (with_office w s o) ≡ o
own_office First s o = refl
own_office Second s o = refl

-- the office that is not changed
pub other_office : (w : Which) (s : Station) (o : Office) → office_in (other w) (with_office w s o) ≡ office_in (other w) s
other_office First s o = refl
other_office Second s o = refl

pub kept_office : (w : Which) (s : Station) (o : Office) → office_in w (with_office (other w) s o) ≡ office_in w s
kept_office First s o = refl
kept_office Second s o = refl

-- a station is its two offices
same_station : (w : Which) (s t : Station) → office_in w s ≡ office_in w t → office_in (other w) s ≡ office_in (other w) t → s ≡ t
same_station First s t e f = ap₂ (λ (o p : Office). record { first = o; second = p }) e f
same_station Second s t e f = ap₂ (λ (o p : Office). record { first = o; second = p }) f e

-- ---- a call of office w

module _ (s : Station) (n : ℕ) (w : Which) (named : n ≡ office_number w) where
  by_name : (b : Both Held) (c : OfficeCall) (o : StationOutcome) → station_outcome b (call_by w c) ≡ o → station_outcome b (call_of n c) ≡ o
  by_name b c o e = ap (λ (m : ℕ). station_outcome b (call_of m c)) named ∙ e

  -- on its unit
  module _ (c : Call) where
    pub named_refused :
        (m : ℕ) → station_outcome (units_in s) (call_by w (Plan c)) ≡ refused_all m (units_in s) (Plan c)
        → PlansBoth s n c (record { answer = Refused m; station = s })
    named_refused m out = refused_plans s n c m (by_name (units_in s) (Plan c) _ out)

    -- the reply has the units of the office's outcome, and of what the other then holds
    pub plans :
        (r : StationReply) (o : OfficeOutcome) (p : Held) → station_outcome (units_in s) (call_by w (Plan c)) ≡ beside w p o → r.answer ≡ o.answer
        → office_in w r.station ≡ record { unit = o.held.unit; window = (office_in w s).window }
        → office_in (other w) r.station ≡ record { unit = p.unit; window = (office_in (other w) s).window } → PlansBoth s n c r
    plans r o p e a f g =
        let out = by_name (units_in s) (Plan c) (beside w p o) e in
        let units : (v : Which) → (office_in v r.station).unit ≡ (own v (together w o.held p)).unit =
        each (λ v. (office_in v r.station).unit ≡ (own v (together w o.held p)).unit) w (rw (own_part, f)) (rw (other_part, g)) in
        record {
          answer = a ∙ sym (ap (λ (x : StationOutcome). x.answer) out);
          units = λ v. units v ∙ sym (ap (λ (x : StationOutcome). (own v x.held).unit) out);
          windows = each (λ v. (office_in v r.station).window ≡ (office_in v s).window) w (rw f) (rw g);
        }

    -- one that brings no other tables
    pub put_plans :
        (answer : Answer) (o : Office) → brings_tables (office_in w s).unit.district (Plan c) ≡ false
        → Plans (office_in w s) c (record { answer = answer; office = o }) → PlansBoth s n c (record { answer = answer; station = with_office w s o })
    unfolding office_outcome
    put_plans answer o brings p =
        let u = units_in s in
        let same = unit_in w s in
        plans (record { answer = answer; station = with_office w s o }) (office_outcome (own w u) (Plan c)) (own (other w) u)
        (as_alone w u (Plan c) (rw same at brings))
        (p.answer ∙ ap (λ (x : Unit). (outcome_of x c).answer) same)
        (own_office w s o
        ∙ ap₂ (λ (x : Unit) (y : Window). record { unit = x; window = y }) (p.unit ∙ ap (λ (x : Unit). (outcome_of x c).unit) same) p.window)
        (other_office w s o ∙ parts (other w) s)

  -- a record of its meter
  module _ (sent : Sent) (answer : Answer) (o : Office) (sends : Sends (office_in w s) sent (record { answer = answer; office = o })) where
    abbrev t : Station
    t = with_office w s o

    reported : RepliesTo s (call_of n (Send sent)) (record { answer = answer; station = t })
    unfolding brings_tables
    reported b keeps =
        let h = sends.makes (own w b) (keeps w) in
        let x = office_outcome (own w b) (Send sent) in
        let p = own (other w) b in
        let out = by_name b (Send sent) (beside w p x) (as_alone w b (Send sent) refl) in
        let kept : KeepsBoth t (together w x.held p) =
        each (λ v. Keeps (office_in v t) (own v (together w x.held p))) w (rw (own_part, own_office) h.office) (rw (other_part, other_office) (keeps (other w))) in
        record {
          answer = h.answer ∙ sym (ap (λ (y : StationOutcome). y.answer) out);
          station = subst (λ (y : StationOutcome). KeepsBoth t y.held) (sym out) kept;
        }

    pub put_sends : SendsBoth s n sent (record { answer = answer; station = t })
    put_sends =
        record {
          reports = reported;
          refused =
              λ m e. same_station w t s (own_office w s o ∙ sent_refused (office_in w s) sent (record { answer = answer; office = o }) sends m e) (other_office w s o);
          named = for_named (λ v. Sends (office_in v s) sent (record { answer = answer; office = office_in v t })) n w named (rw own_office sends);
          untouched = for_named (λ v. office_in (other v) t ≡ office_in (other v) s) n w named (other_office w s o);
          nobody = λ e. let is = named_office n w named in cc;
        }
