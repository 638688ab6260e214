-- What a desk stands for: that of rules, specs/Desks.antt; and what its calls promise, of a desk in any state.
use Rattle.std.specs.Prelude.{ℕ, ◌≡◌, Option, None, Some, Result}
use Rattle.rules.specs.Desks as Desks
use Rattle.rules.specs.Desks.{console_number, arrival_of, taken, step_of, Event, desk_by, answer_to}
use Rattle.rules.specs.Stations.{own}
use Rattle.rules.specs.Answers.{Answer, Accepted, Refused, answer_in}
use Rattle.rules.specs.declared.Waiting.{Waiting}
use Rattle.queues.specs.Waits.{queues_in}
use Rattle.rules.specs.declared.Console.{Console}
use Rattle.rules.specs.declared.refusals.Refusal.{Refusal}
use Rattle.station.specs.Kept.{office_in, StationReply, KeepsBoth, units_in}
use Rattle.desk.specs.declared.Desk.{Desk}
use Rattle.rules.specs.declared.Which.{Which}

pub record KeepsDesk (d : Desk) (h : Desks.Desk) : Type 0 where
  pub station : KeepsBoth d.station h.held
  pub queues : queues_in d.queues ≡ h.queues

-- an answer and the desk as the call leaves it
pub record DeskReply : Type 0 where
  pub answer : Answer
  pub desk : Desk

abbrev pub reply : Result ℕ Refusal → Desk → DeskReply
reply r d = record { answer = answer_in r; desk = d }

-- what a step returns, with the rules' numbers: the console's and its edit's answer, or 0 and 0; and the desk then
pub record Stepped : Type 0 where
  pub console : ℕ
  pub answer : Answer
  pub desk : Desk

abbrev pub stepped : Option (Console × Result ℕ Refusal) → Desk → Stepped
stepped None d = record { console = 0; answer = Accepted 0; desk = d }
stepped (Some t) d = record { console = console_number t.0; answer = answer_in t.1; desk = d }

-- an arrival sees no station; a refused one leaves the desk as it is, by value
pub record Arrives (d : Desk) (n : ℕ) (w : Waiting) (r : DeskReply) : Type 0 where
  pub answer : r.answer ≡ (arrival_of (queues_in d.queues) n w).answer
  pub queues : queues_in r.desk.queues ≡ (arrival_of (queues_in d.queues) n w).queues
  pub station : r.desk.station ≡ d.station
  pub refused : (m : ℕ) → r.answer ≡ Refused m → r.desk ≡ d

-- all that a step sees: queues and units, and no window
abbrev pub desk_in : Desk → Desks.Desk
desk_in d = record { held = units_in d.station; queues = queues_in d.queues }

pub record Steps (d : Desk) (r : Stepped) : Type 0 where
  pub console : r.console ≡ (step_of (desk_in d)).console
  pub answer : r.answer ≡ (step_of (desk_in d)).answer
  pub queues : queues_in r.desk.queues ≡ (step_of (desk_in d)).desk.queues
  pub units : (w : Which) → (office_in w r.desk.station).unit ≡ (own w (step_of (desk_in d)).desk.held).unit
  pub windows : (w : Which) → (office_in w r.desk.station).window ≡ (office_in w d.station).window
  -- where none waits the desk is left as it is, by value
  pub idle : taken (queues_in d.queues) ≡ None → r.desk ≡ d

-- a call of the station gets the station's own reply, and leaves the queues as they are
pub record Asks (d : Desk) (Replies : StationReply → Type 0) (r : DeskReply) : Type 0 where
  pub reply : Replies (record { answer = r.answer; station = r.desk.station })
  pub queues : r.desk.queues ≡ d.queues

-- ---- from what a desk keeps

-- the reply is what the event comes to
pub record ReportsEvent (h : Desks.Desk) (e : Event) (r : DeskReply) : Type 0 where
  pub answer : r.answer ≡ answer_to h e
  pub desk : KeepsDesk r.desk (desk_by h e)

abbrev pub Happens : Desk → Event → DeskReply → Type 0
Happens d e r = (h : Desks.Desk) → KeepsDesk d h → ReportsEvent h e r
