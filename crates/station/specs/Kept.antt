-- What the offices of a station stand for: what both hold by rules, specs/Stations.antt.
use Rattle.std.specs.Prelude.{ℕ, ◌≡◌, Bool, false, List, Result, is_some}
use Rattle.rules.specs.Answers.{no_such_office, Answer, Refused, answer_in}
use Rattle.rules.specs.Lists.{Call}
use Rattle.rules.specs.Meter.{nothing_heard}
use Rattle.rules.specs.Offices.{Held, Plan, Send}
use Rattle.rules.specs.Stations.{other, Both, own, office_number, office_of, StationCall, call_of, station_outcome}
use Rattle.rules.specs.declared.Sent.{Sent}
use Rattle.rules.specs.declared.refusals.Refusal.{Refusal}
use Rattle.office.specs.Kept.{Keeps, Sends}
use Rattle.office.specs.declared.Office.{Office}
use Rattle.station.specs.declared.Station.{Station}
use Rattle.rules.specs.declared.Which.{Which}
use Rattle.rules.specs.declared.Which.TheVariants.{First, Second}

-- ---- numbers

-- an office has the number
unfoldable pub is_office : ℕ → Bool
is_office n = is_some (office_of n)

abbrev pub office_in : Which → Station → Office
office_in First s = s.first
office_in Second s = s.second

-- the station with o as office w
abbrev pub with_office : Which → Station → Office → Station
with_office First s o = record s { first = o }
with_office Second s o = record s { second = o }

-- an answer and the station as the call leaves it
pub record StationReply : Type 0 where
  pub answer : Answer
  pub station : Station

abbrev pub reply : Result ℕ Refusal → Station → StationReply
reply r s = record { answer = answer_in r; station = s }

-- ---- what a station keeps

abbrev pub KeepsBoth : Station → Both Held → Type 0
KeepsBoth s b = (w : Which) → Keeps (office_in w s) (own w b)

-- the reply is the call's outcome, from what both hold
pub record ReportsBoth (b : Both Held) (c : StationCall) (r : StationReply) : Type 0 where
  pub answer : r.answer ≡ (station_outcome b c).answer
  pub station : KeepsBoth r.station (station_outcome b c).held

abbrev pub RepliesTo : Station → StationCall → StationReply → Type 0
RepliesTo s c r = (b : Both Held) → KeepsBoth s b → ReportsBoth b c r

-- ---- a call on an office's unit: it sees no window, so this is of a station in any state

-- what both hold, but for what their meters sent
abbrev pub units_in : Station → Both Held
units_in s = record { first = record { unit = s.first.unit; heard = nothing_heard }; second = record { unit = s.second.unit; heard = nothing_heard } }

-- both units as the rules have it, and both windows as they were
pub record PlansBoth (s : Station) (n : ℕ) (c : Call) (r : StationReply) : Type 0 where
  pub answer : r.answer ≡ (station_outcome (units_in s) (call_of n (Plan c))).answer
  pub units : (w : Which) → (office_in w r.station).unit ≡ (own w (station_outcome (units_in s) (call_of n (Plan c))).held).unit
  pub windows : (w : Which) → (office_in w r.station).window ≡ (office_in w s).window

-- where it leaves both units as they are: its answer, and the lent bytes as they come back
abbrev pub Lends : Station → ℕ → Call → Answer → List ℕ → Type 0
Lends s n c answer bytes = station_outcome (units_in s) (call_of n (Plan c)) ≡ record { answer = answer; held = units_in s; bytes = bytes }

-- ---- what an office's meter sent

-- the office that is named, if any, keeps what it holds
abbrev pub KeepsNamed : Station → ℕ → Both Held → Type 0
KeepsNamed s n b = (w : Which) → n ≡ office_number w → Keeps (office_in w s) (own w b)

-- of the office that is named, whatever the other's window is; and what is not asked is left as it is, by value: the station, where the record is
-- refused, and the other office
pub record SendsBoth (s : Station) (n : ℕ) (sent : Sent) (r : StationReply) : Type 0 where
  pub reports : RepliesTo s (call_of n (Send sent)) r
  pub refused : (m : ℕ) → r.answer ≡ Refused m → r.station ≡ s
  pub named : (w : Which) → n ≡ office_number w → Sends (office_in w s) sent (record { answer = r.answer; office = office_in w r.station })
  pub untouched : (w : Which) → n ≡ office_number w → office_in (other w) r.station ≡ office_in (other w) s
  pub nobody : is_office n ≡ false → r.answer ≡ Refused no_such_office
