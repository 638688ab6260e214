-- What is promised of a desk (document 02, request 12), of any list of events: arrivals, steps and calls of a station, in any order. An edit waits at
-- most four steps for each edit before it in its queue, and four for itself; each accepted edit is carried out once and in the order of its queue; and
-- what is answered is what the list of calls gets in which each edit stands at its step, so that all that is promised of lists of calls holds.
use Rattle.std.specs.Prelude.{ℕ, zero, suc, ◌+◌, ◌*◌, ◌≤◌, ◌<◌, ◌≡◌, true, List, [], ◌∷◌, ◌++◌, eqb, length, take}
use Rattle.std.specs.Prelude.{Option, None, Some}
use Rattle.base.specs.Choice.{pick}
use Rattle.rules.specs.District.{District, shared_tables}
use Rattle.rules.specs.Answers.{no_such_office, no_such_console, queue_full, Answer, Accepted, Refused}
use Rattle.rules.specs.Calls.{unit_with, show_of}
use Rattle.rules.specs.Offices.{Held}
use Rattle.rules.specs.Stations.{other, Both, own, office_number, fresh_both, StationCall, station_outcome, station_from, station_after, districts_after, choices_after, without}
use Rattle.rules.specs.Demands.{Sound, Shown}
use Rattle.rules.specs.StationDemands.{StationClaim, nothing_more, Got, gets, got_by, throughout, leaves_tables, not_in_use}
use Rattle.rules.specs.Desks.{console_number, next_to, Queues, queue_of, with_queue, with_turn, most_waiting, Arrival, arrival_of, Taken, taken, Desk, fresh_desk, carrying, step_of, Event, Arrive, Step, Ask, desk_by, answer_to, desk_from, desk_after, gathered, calls_at, calls_from, calls_in, carried_by, accepted_from, carried_from, steps_in}
use Rattle.rules.specs.declared.Console.{Console}
use Rattle.rules.specs.declared.Waiting.{Waiting}
use Rattle.rules.specs.declared.Which.{Which}
use Rattle.rules.specs.declared.Which.TheVariants.{First, Second}

-- ---- Each event is settled, of a desk in any state

-- a call is answered as by a station, and leaves the queues as they were: a load empties none
pub record CallSettled (d : Desk) (c : StationCall) : Type 0 where
  pub answer : answer_to d (Ask c) ≡ (station_outcome d.held c).answer
  pub desk : desk_by d (Ask c) ≡ record { held = (station_outcome d.held c).held; queues = d.queues }

abbrev pub EveryCall : Type 0
EveryCall = (d : Desk) (c : StationCall) → CallSettled d c

-- a refused arrival leaves the queues as they were
abbrev pub not_queued : ℕ → Queues → Arrival
not_queued n q = record { answer = Refused n; queues = q }

pub record ArrivalSettled (q : Queues) (n : ℕ) (w : Waiting) : Type 0 where
  -- no office has the number;
  pub nobody : ¬ (w.office ≡ 1) → ¬ (w.office ≡ 2) → arrival_of q n w ≡ not_queued no_such_office q
  -- an office has it, and no console has its own;
  pub nowhere :
      (o : Which) → w.office ≡ office_number o → ((c : Console) → ¬ (n ≡ console_number c)) → arrival_of q n w ≡ not_queued no_such_console q
  -- both are named, and there is no place free;
  pub full :
      (o : Which) → w.office ≡ office_number o → (c : Console) → n ≡ console_number c → most_waiting ≤ length (queue_of c q)
      → arrival_of q n w ≡ not_queued queue_full q
  -- or the edit is the last of its queue
  pub accepted :
      (o : Which) → w.office ≡ office_number o → (c : Console) → n ≡ console_number c → length (queue_of c q) < most_waiting
      → arrival_of q n w ≡ record { answer = Accepted 0; queues = with_queue c (queue_of c q ++ (w ∷ [])) q }

abbrev pub EveryArrival : Type 0
EveryArrival = (q : Queues) (n : ℕ) (w : Waiting) → ArrivalSettled q n w

-- the console n further on, in circular order
unfoldable pub further : ℕ → Console → Console
further zero c = c
further (suc n) c = next_to (further n c)

-- an edit w of console c is carried out, the one of this step: console and answer are returned, and the turn is the next one's
pub record Carries (d : Desk) (c : Console) (w : Waiting) (ws : List Waiting) : Type 0 where
  pub step :
      let o = station_outcome d.held (carrying w) in
      step_of d
      ≡ record {
        console = console_number c;
        answer = o.answer;
        desk = record { held = o.held; queues = with_turn (next_to c) (with_queue c ws d.queues) };
      }
  pub call : calls_at d Step ≡ carrying w ∷ []
  pub own : carried_by c d Step ≡ w ∷ []
  pub others : (e : Console) → ¬ (e ≡ c) → carried_by e d Step ≡ []

-- none is
pub record Idles (d : Desk) : Type 0 where
  pub step : step_of d ≡ record { console = 0; answer = Accepted 0; desk = d }
  pub call : calls_at d Step ≡ []
  pub none : (c : Console) → carried_by c d Step ≡ []

pub record StepSettled (d : Desk) : Type 0 where
  -- none waits;
  pub idle : ((c : Console) → queue_of c d.queues ≡ []) → Idles d
  -- or the first console that has an edit, from the turn on, is the one n further on, and its oldest is carried out
  pub carried :
      (n : ℕ) (w : Waiting) (ws : List Waiting) → n < 4 → let c = further n d.queues.turn in
      ((m : ℕ) → m < n → queue_of (further m d.queues.turn) d.queues ≡ []) → queue_of c d.queues ≡ w ∷ ws → Carries d c w ws

abbrev pub EveryStep : Type 0
EveryStep = (d : Desk) → StepSettled d

-- ---- Nobody is starved, and no edit is lost

-- from a desk in any state the edits of a console that are carried out, and behind them those that wait then, are those that waited and behind them
-- those that were accepted: each once, and in this order
abbrev pub OnceInOrder : Type 0
OnceInOrder =
    (d : Desk) (c : Console) (es : List Event)
    → carried_from c d es ++ queue_of c (desk_from d es).queues ≡ queue_of c d.queues ++ accepted_from c d es

-- an edit that has k before it in its queue is carried out, after these, by any events with 4 × (k + 1) steps among them
abbrev pub NobodyStarves : Type 0
NobodyStarves =
    (d : Desk) (c : Console) (k : ℕ) (es : List Event) → k < length (queue_of c d.queues) → 4 * (k + 1) ≤ steps_in es
    → take (k + 1) (carried_from c d es) ≡ take (k + 1) (queue_of c d.queues)

-- so is one that arrives, with the k that it finds there
abbrev pub CarriedInTime : Type 0
CarriedInTime =
    (d : Desk) (c : Console) (w : Waiting) (es : List Event) → (arrival_of d.queues (console_number c) w).answer ≡ Accepted 0
    → let before = queue_of c d.queues in
    4 * (length before + 1) ≤ steps_in es
    → take (length before + 1) (carried_from c (desk_by d (Arrive (console_number c) w)) es) ≡ before ++ (w ∷ [])

-- ---- The answers are those of the list of calls in which each edit stands at its step

-- what is given for a call or an edit, and the number of the office that it goes to
pub record Given : Type 0 where
  pub office : ℕ
  pub got : Got

-- a step gives the answer of its edit; an arrival gives no more than its own
abbrev pub step_gives : Option Taken → Answer → List Given
step_gives None answer = []
step_gives (Some t) answer = record { office = t.waiting.office; got = record { answer = answer; bytes = []; told = nothing_more } } ∷ []

unfoldable pub gives : Desk → Event → List Given
gives d (Arrive n w) = []
gives d Step = step_gives (taken d.queues) (answer_to d Step)
gives d (Ask c) = record { office = c.office; got = gets d.held c } ∷ []

-- what the calls of a list are given, one after another
unfoldable pub all_given : Both Held → List StationCall → List Given
all_given b [] = []
all_given b (c ∷ cs) = record { office = c.office; got = gets b c } ∷ all_given (station_outcome b c).held cs

-- of these, what goes to office w
unfoldable pub given_to : Which → List Given → List Got
given_to w [] = []
given_to w (g ∷ gs) = pick (eqb g.office (office_number w)) (g.got ∷ given_to w gs) (given_to w gs)

-- from a desk in any state
pub record AsCalls (d : Desk) (es : List Event) : Type 0 where
  pub held : (desk_from d es).held ≡ station_from d.held (calls_from d es)
  pub given : gathered gives d es ≡ all_given d.held (calls_from d es)

abbrev pub EveryRun : Type 0
EveryRun = (d : Desk) (es : List Event) → AsCalls d es

-- ---- What is promised of lists of calls holds of that list, and of what is held after the events

-- the district of office w after the events
abbrev pub desk_district : Which → List Event → District
desk_district w es = own w (districts_after (calls_in es))

pub record DeskClaim (es : List Event) : Type 0 where
  pub held : (desk_after es).held ≡ station_after (calls_in es)
  -- of each office the planning statements, after each step as after each other event;
  pub claim : (w : Which) → StationClaim (calls_in es) w
  pub planned : (w : Which) → (own w (desk_after es).held).unit ≡ unit_with (own w (choices_after (calls_in es))) (desk_district w es)
  pub sound : (w : Which) → Sound (desk_district w es) (show_of (own w (desk_after es).held).unit)
  pub shown : (w : Which) → Shown (desk_district w es) (show_of (own w (desk_after es).held).unit)
  -- what is shared of what both hold;
  pub tables : shared_tables (own First (desk_after es).held).unit.district ≡ shared_tables (own Second (desk_after es).held).unit.district
  -- leaving out the calls of one office, its edits at their steps among them: the other gets what the desk gave it;
  pub alone :
      (a : Which) → throughout (leaves_tables a) fresh_both (calls_in es) ≡ true → throughout (not_in_use (other a)) fresh_both (calls_in es) ≡ true
      → got_by (other a) (without a (calls_in es)) ≡ given_to (other a) (gathered gives fresh_desk es)
  -- and no more wait at a console than there are places
  pub few : (c : Console) → length (queue_of c (desk_after es).queues) ≤ most_waiting

abbrev pub EveryDesk : Type 0
EveryDesk = (es : List Event) → DeskClaim es
