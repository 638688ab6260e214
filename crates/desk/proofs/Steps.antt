-- A step: by what is taken from the queues, and what the station replies.
use mathlib.Core.Path.{◌≡◌, refl, ap, ◌∙◌}
use Rattle.std.specs.Prelude.{Option, None, Some}
use Rattle.rules.specs.Desks as Desks
use Rattle.rules.specs.Desks.{console_number, Taken, taken, step_with, step_of, Step, desk_by, answer_to}
use Rattle.rules.specs.Lists.{Alter}
use Rattle.rules.specs.Answers.{Accepted}
use Rattle.queues.specs.Waits.{queues_in}
use Rattle.queues.specs.declared.Queues.{Queues}
use Rattle.station.specs.Kept.{StationReply, PlansBoth}
use Rattle.station.proofs.Units.{unit_in}
use Rattle.station.proofs.Replies.{plans_replies}
use Rattle.desk.specs.Kept.{KeepsDesk, Stepped, desk_in, Steps, ReportsEvent}
use Rattle.desk.specs.declared.Desk.{Desk}

module _ (d : Desk) where
  -- the rules' step, by what is taken
  step_by : (x : Option Taken) → taken (queues_in d.queues) ≡ x → step_of (desk_in d) ≡ step_with (desk_in d) x
  unfolding step_of
  step_by x e = ap (step_with (desk_in d)) e

  pub steps_idle : taken (queues_in d.queues) ≡ None → Steps d (record { console = 0; answer = Accepted 0; desk = d })
  steps_idle e =
      let is = step_by None e in
      record {
        console = rw is;
        answer = rw is;
        queues = rw is;
        units = λ w. rw is (unit_in w d.station);
        windows = λ w. refl;
        idle = λ _. refl;
      }

  pub steps_carried :
      (t : Taken) → taken (queues_in d.queues) ≡ Some t → (p : Queues) → queues_in p ≡ t.queues → (reply : StationReply)
      → PlansBoth d.station t.waiting.office (Alter t.waiting.edit) reply
      → Steps d (record { console = console_number t.console; answer = reply.answer; desk = record { station = reply.station; queues = p } })
  steps_carried t e p rest reply plans =
      let is = step_by (Some t) e in
      record {
        console = rw is;
        answer = rw is plans.answer;
        queues = rw is rest;
        units = λ w. rw is (plans.units w);
        windows = plans.windows;
        idle = λ none. cc;
      }

-- ---- from what the desk keeps

module _ (d : Desk) (r : Stepped) (steps : Steps d r) (h : Desks.Desk) (k : KeepsDesk d h) where
  -- by what is taken, of which both see the same
  kept_by : (x : Option Taken) → taken h.queues ≡ x → step_of h ≡ step_with h x
  unfolding step_of
  kept_by x e = ap (step_with h) e

  seen : (x : Option Taken) → taken h.queues ≡ x → taken (queues_in d.queues) ≡ x
  seen x e = ap taken k.queues ∙ e

  abbrev Reported : Type 0
  Reported = (r.console ≡ (step_of h).console) × (r.answer ≡ (step_of h).answer) × KeepsDesk r.desk (step_of h).desk

  idle_reports : taken h.queues ≡ None → Reported
  idle_reports e =
      let is = step_by d None (seen None e) in
      let was = kept_by None e in
      (rw was (rw is at steps.console), rw was (rw is at steps.answer), rw (was, steps.idle (seen None e)) k)

  carried_reports : (t : Taken) → taken h.queues ≡ Some t → Reported
  carried_reports t e =
      let is = step_by d (Some t) (seen (Some t) e) in
      let was = kept_by (Some t) e in
      let plans : PlansBoth d.station t.waiting.office (Alter t.waiting.edit) (record { answer = r.answer; station = r.desk.station }) =
      record { answer = rw is at steps.answer; units = λ w. rw is at (steps.units w); windows = steps.windows } in
      let reports = plans_replies d.station t.waiting.office (Alter t.waiting.edit) _ plans h.held k.station in (
        rw was (rw is at steps.console),
        rw was reports.answer,
        rw was record { station = reports.station; queues = rw is at steps.queues },
      )

  reported : (x : Option Taken) → taken h.queues ≡ x → Reported
  reported None e = idle_reports e
  reported (Some t) e = carried_reports t e

  pub step_console : r.console ≡ (step_of h).console
  step_console = (reported (taken h.queues) refl).0

  pub step_happens : ReportsEvent h Step (record { answer = r.answer; desk = r.desk })
  unfolding answer_to desk_by
  step_happens = let x = reported (taken h.queues) refl in record { answer = x.1; desk = x.2 }
