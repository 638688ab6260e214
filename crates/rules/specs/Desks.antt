-- Document 02, request 12: four consoles before one planner, together a desk. Each console has a queue of edits; a step carries out one of them, and
-- the consoles have their turns in circular order. What both offices hold is changed by steps, and by the calls of a station as ever.
use Rattle.std.specs.Prelude.{ℕ, suc, ◌&&◌, List, [], ◌∷◌, ◌++◌, ltb, eqb, length}
use Rattle.std.specs.Prelude.{Option, None, Some}
use Rattle.base.specs.Choice.{pick}
use Rattle.base.specs.Search.{or_else}
use Rattle.rules.specs.Answers.{no_such_office, no_such_console, queue_full, unless, answer_of, accepting, Answer, Accepted}
use Rattle.rules.specs.Lists.{Alter}
use Rattle.rules.specs.Offices.{Held, Plan}
use Rattle.rules.specs.Stations.{Both, office_of, fresh_both, StationCall, call_of, StationOutcome, station_outcome}
use Rattle.rules.specs.declared.Console.{Console}
use Rattle.rules.specs.declared.Console.TheVariants.{One, Two, Three, Four}
use Rattle.rules.specs.declared.Waiting.{Waiting}
use Rattle.rules.specs.declared.Which.{Which}

-- ---- the consoles

-- their numbers; any other names none
abbrev pub console_number : Console → ℕ
console_number One = 1
console_number Two = 2
console_number Three = 3
console_number Four = 4

abbrev pub console_of : ℕ → Option Console
console_of n = pick (eqb n 1) (Some One) (pick (eqb n 2) (Some Two) (pick (eqb n 3) (Some Three) (pick (eqb n 4) (Some Four) None)))

-- the next in circular order
abbrev pub next_to : Console → Console
next_to One = Two
next_to Two = Three
next_to Three = Four
next_to Four = One

-- ---- what waits at each, the oldest edit first, and whose turn it is

pub record Queues : Type 0 where
  pub one : List Waiting
  pub two : List Waiting
  pub three : List Waiting
  pub four : List Waiting
  pub turn : Console

-- at the start, console 1 is first
unfoldable pub fresh_queues : Queues
fresh_queues = record { one = []; two = []; three = []; four = []; turn = One }

abbrev pub queue_of : Console → Queues → List Waiting
queue_of One q = q.one
queue_of Two q = q.two
queue_of Three q = q.three
queue_of Four q = q.four

-- ws as the queue of console c
abbrev pub with_queue : Console → List Waiting → Queues → Queues
with_queue One ws q = record { one = ws; two = q.two; three = q.three; four = q.four; turn = q.turn }
with_queue Two ws q = record { one = q.one; two = ws; three = q.three; four = q.four; turn = q.turn }
with_queue Three ws q = record { one = q.one; two = q.two; three = ws; four = q.four; turn = q.turn }
with_queue Four ws q = record { one = q.one; two = q.two; three = q.three; four = ws; turn = q.turn }

abbrev pub with_turn : Console → Queues → Queues
with_turn c q = record { one = q.one; two = q.two; three = q.three; four = q.four; turn = c }

-- ---- an arrival: an edit, with its office's number, at the console of number n

abbrev pub most_waiting : ℕ
most_waiting = 8

-- 20 where no console has the number, 21 where no place is free there
abbrev pub refusal_at : Option Console → Queues → ℕ
refusal_at None q = no_such_console
refusal_at (Some c) q = unless (ltb (length (queue_of c q)) most_waiting) queue_full 0

-- 16, which comes before both, where no office has its number
abbrev pub refusal_behind : Option Which → ℕ → ℕ
refusal_behind None r = no_such_office
refusal_behind (Some w) r = r

-- nothing else is tested before the edit's step
unfoldable pub arrival_refusal : Queues → ℕ → Waiting → ℕ
arrival_refusal q n w = refusal_behind (office_of w.office) (refusal_at (console_of n) q)

-- last in its queue
abbrev pub queued_at : Option Console → Waiting → Queues → Queues
queued_at None w q = q
queued_at (Some c) w q = with_queue c (queue_of c q ++ (w ∷ [])) q

pub record Arrival : Type 0 where
  pub answer : Answer
  pub queues : Queues

-- with a refusal, 0 for none
abbrev pub arrival_by : ℕ → Option Console → Waiting → Queues → Arrival
arrival_by r c w q = record { answer = answer_of r 0; queues = accepting r (queued_at c w q) q }

unfoldable pub arrival_of : Queues → ℕ → Waiting → Arrival
arrival_of q n w = arrival_by (arrival_refusal q n w) (console_of n) w q

-- ---- which edit a step takes

-- the edit, its console, and the queues without it
pub record Taken : Type 0 where
  pub console : Console
  pub waiting : Waiting
  pub queues : Queues

-- the oldest of console c; the turn is then the next one's
abbrev pub oldest_of : Console → List Waiting → Queues → Option Taken
oldest_of c [] q = None
oldest_of c (w ∷ ws) q = Some record { console = c; waiting = w; queues = with_turn (next_to c) (with_queue c ws q) }

abbrev pub oldest_at : Queues → Console → Option Taken
oldest_at q c = oldest_of c (queue_of c q) q

-- of the first that has one: the console whose turn it is, the next, the one after it, the last of the four
unfoldable pub taken : Queues → Option Taken
taken q =
    let c = q.turn in
    or_else (oldest_at q c) (or_else (oldest_at q (next_to c)) (or_else (oldest_at q (next_to (next_to c))) (oldest_at q (next_to (next_to (next_to c))))))

-- ---- the desk, and a step

pub record Desk : Type 0 where
  pub held : Both Held
  pub queues : Queues

unfoldable pub fresh_desk : Desk
fresh_desk = record { held = fresh_both; queues = fresh_queues }

-- the call that carries an edit out
abbrev pub carrying : Waiting → StationCall
carrying w = call_of w.office (Plan (Alter w.edit))

-- the number of the console and the edit's answer; 0 and 0 where none waits
pub record Stepped : Type 0 where
  pub console : ℕ
  pub answer : Answer
  pub desk : Desk

-- a refused edit does not go back
abbrev pub carried_out : Taken → StationOutcome → Stepped
carried_out t o = record { console = console_number t.console; answer = o.answer; desk = record { held = o.held; queues = t.queues } }

-- where none waits nothing changes, not the turn either
abbrev pub step_with : Desk → Option Taken → Stepped
step_with d None = record { console = 0; answer = Accepted 0; desk = d }
step_with d (Some t) = carried_out t (station_outcome d.held (carrying t.waiting))

unfoldable pub step_of : Desk → Stepped
step_of d = step_with d (taken d.queues)

-- ---- one event after another: an arrival, a step, a call of a station

pub data Event : Type 0 where
  Arrive : ℕ → Waiting → Event
  Step : Event
  Ask : StationCall → Event

unfoldable pub desk_by : Desk → Event → Desk
desk_by d (Arrive n w) = record { held = d.held; queues = (arrival_of d.queues n w).queues }
desk_by d Step = (step_of d).desk
desk_by d (Ask c) = record { held = (station_outcome d.held c).held; queues = d.queues }

-- what it answers; where it is a step, what its edit is answered
unfoldable pub answer_to : Desk → Event → Answer
answer_to d (Arrive n w) = (arrival_of d.queues n w).answer
answer_to d Step = (step_of d).answer
answer_to d (Ask c) = (station_outcome d.held c).answer

unfoldable pub desk_from : Desk → List Event → Desk
desk_from d [] = d
desk_from d (e ∷ es) = desk_from (desk_by d e) es

unfoldable pub desk_after : List Event → Desk
desk_after es = desk_from fresh_desk es

-- what each event gives, one after another
unfoldable pub gathered : {A : Type 0} → (Desk → Event → List A) → Desk → List Event → List A
gathered f d [] = []
gathered f d (e ∷ es) = f d e ++ gathered f (desk_by d e) es

-- ---- the calls that events make, each edit standing at its step

abbrev pub call_for : Option Taken → List StationCall
call_for None = []
call_for (Some t) = carrying t.waiting ∷ []

unfoldable pub calls_at : Desk → Event → List StationCall
calls_at d (Arrive n w) = []
calls_at d Step = call_for (taken d.queues)
calls_at d (Ask c) = c ∷ []

abbrev pub calls_from : Desk → List Event → List StationCall
calls_from d es = gathered calls_at d es

abbrev pub calls_in : List Event → List StationCall
calls_in es = calls_from fresh_desk es

-- ---- the edits of console c

-- those that are accepted
unfoldable pub accepted_by : Console → Desk → Event → List Waiting
accepted_by c d (Arrive n w) = pick (eqb n (console_number c) && eqb (arrival_refusal d.queues n w) 0) (w ∷ []) []
accepted_by c d Step = []
accepted_by c d (Ask call) = []

-- those that are carried out
abbrev pub taken_for : Console → Option Taken → List Waiting
taken_for c None = []
taken_for c (Some t) = pick (eqb (console_number t.console) (console_number c)) (t.waiting ∷ []) []

unfoldable pub carried_by : Console → Desk → Event → List Waiting
carried_by c d (Arrive n w) = []
carried_by c d Step = taken_for c (taken d.queues)
carried_by c d (Ask call) = []

abbrev pub accepted_from : Console → Desk → List Event → List Waiting
accepted_from c d es = gathered (accepted_by c) d es

abbrev pub carried_from : Console → Desk → List Event → List Waiting
carried_from c d es = gathered (carried_by c) d es

-- how many steps there are
unfoldable pub steps_in : List Event → ℕ
steps_in [] = 0
steps_in (Arrive n w ∷ es) = steps_in es
steps_in (Step ∷ es) = suc (steps_in es)
steps_in (Ask c ∷ es) = steps_in es
