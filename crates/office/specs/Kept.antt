-- What an office's unit and window stand for: what is held by rules, specs/Offices.antt.
use Rattle.std.specs.Prelude.{◌≡◌, ℕ, Result}
use Rattle.rules.specs.Answers.{Answer, answer_in}
use Rattle.rules.specs.Lists.{Call, outcome_of}
use Rattle.rules.specs.Offices.{Held, OfficeCall, Plan, Send, office_outcome}
use Rattle.rules.specs.declared.Sent.{Sent}
use Rattle.rules.specs.declared.refusals.Refusal.{Refusal}
use Rattle.meter.specs.Window.{Holds, Follows}
use Rattle.office.specs.declared.Office.{Office}

pub record Keeps (o : Office) (h : Held) : Type 0 where
  pub unit : o.unit ≡ h.unit
  pub window : Holds o.window h.heard

-- an answer and the office as the call leaves it
pub record OfficeReply : Type 0 where
  pub answer : Answer
  pub office : Office

abbrev pub reply : Result ℕ Refusal → Office → OfficeReply
reply r o = record { answer = answer_in r; office = o }

-- the reply is the call's outcome, from what is held
pub record Reports (h : Held) (c : OfficeCall) (r : OfficeReply) : Type 0 where
  pub answer : r.answer ≡ (office_outcome h c).answer
  pub office : Keeps r.office (office_outcome h c).held

abbrev pub Makes : Office → OfficeCall → OfficeReply → Type 0
Makes o c r = (h : Held) → Keeps o h → Reports h c r

-- a call of the unit: the window stays and the unit is as the rules have it, whatever they are; and from what is held it is the call's outcome
pub record Plans (o : Office) (c : Call) (r : OfficeReply) : Type 0 where
  pub answer : r.answer ≡ (outcome_of o.unit c).answer
  pub unit : r.office.unit ≡ (outcome_of o.unit c).unit
  pub window : r.office.window ≡ o.window
  pub makes : Makes o (Plan c) r

-- a record: the unit stays and the window follows, whatever they are; and from what is held it is the call's outcome
pub record Sends (o : Office) (s : Sent) (r : OfficeReply) : Type 0 where
  pub unit : r.office.unit ≡ o.unit
  pub window : Follows o.window s (record { answer = r.answer; window = r.office.window })
  pub makes : Makes o (Send s) r
