-- What the queues of this crate stand for, in any state: those of rules, specs/Desks.antt.
use Rattle.std.specs.Prelude.{ℕ, ◌≡◌, Bool, not, nat_eq, List, [], ◌∷◌, length, get_or, take}
use Rattle.std.specs.Prelude.{Option, None, Some, Result}
use Rattle.rules.specs.Desks as Desks
use Rattle.rules.specs.Desks.{queue_of, next_to, refusal_at, arrival_by}
use Rattle.rules.specs.Answers.{Answer, Refused, answer_in}
use Rattle.rules.specs.declared.Console.{Console}
use Rattle.rules.specs.declared.Waiting.{Waiting}
use Rattle.rules.specs.declared.refusals.Refusal.{Refusal}
use Rattle.queues.specs.declared.Queue.{Queue}
use Rattle.queues.specs.declared.Queues.{Queues}

-- the edits that wait in a queue, the oldest first
abbrev pub waiting_in : Queue → List Waiting
waiting_in x = take x.count x.places

-- those of the queue at a place, counted from 0
abbrev pub waiting_at : List Queue → ℕ → List Waiting
waiting_at queues place = waiting_in (get_or queues place (record { places = []; count = 0 }))

abbrev pub queues_in : Queues → Desks.Queues
queues_in q =
    record {
      one = waiting_at q.waiting 0;
      two = waiting_at q.waiting 1;
      three = waiting_at q.waiting 2;
      four = waiting_at q.waiting 3;
      turn = q.turn;
    }

-- the answer to an arrival, and the queues then
pub record Arrival : Type 0 where
  pub answer : Answer
  pub queues : Queues

abbrev pub arrival : Result ℕ Refusal → Queues → Arrival
arrival r q = record { answer = answer_in r; queues = q }

abbrev pub arrival_in : Arrival → Desks.Arrival
arrival_in a = record { answer = a.answer; queues = queues_in a.queues }

-- an arrival but for its office's number, which comes before; a refusal leaves the queues as they are, by value
pub record Admits (q : Queues) (c : Option Console) (w : Waiting) (a : Arrival) : Type 0 where
  pub settled : arrival_in a ≡ arrival_by (refusal_at c (queues_in q)) c w (queues_in q)
  pub refused : (n : ℕ) → a.answer ≡ Refused n → a.queues ≡ q

-- whether an edit waits at console c
abbrev pub waits : Desks.Queues → Console → Bool
waits q c = not (nat_eq (length (queue_of c q)) 0)

-- the four consoles in circular order, from one on
abbrev pub round_from : Console → List Console
round_from c = c ∷ next_to c ∷ next_to (next_to c) ∷ next_to (next_to (next_to c)) ∷ []

-- what is taken, and the queues then
abbrev pub taken_in : Option (Console × Waiting) → Queues → Option Desks.Taken
taken_in None q = None
taken_in (Some t) q = Some record { console = t.0; waiting = t.1; queues = queues_in q }
