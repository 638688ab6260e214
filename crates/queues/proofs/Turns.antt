-- Arrivals, and what a step takes, in terms of one console's queue.
use Prim.Native.Nat.{ℕ, ◌+◌, ◌<◌}
use mathlib.Core.Path.{◌≡◌, refl, sym, ap, ◌∙◌}
use mathlib.Core.List.{List, [], ◌∷◌, ◌++◌}
use Rattle.std.specs.Prelude.{Option, None, Some, not, cond, nat_eq}
use native.Mathlib.Omega.{arith}
use borrow.Author.Tests.{lt-ltb, le-ltb}
use lib.Dec.{eqb-suc-zero}
use lib.ListN.{length, get_or, set}
use Rattle.std.proofs.lemmas.List.{set-get_or}
use Rattle.std.specs.List.{find}
use Rattle.base.specs.Search.{or_else}
use Rattle.rules.specs.Answers.{no_such_console, queue_full, answer_of, accepting, Accepted, Refused}
use Rattle.rules.specs.Desks as Desks
use Rattle.rules.specs.Desks.{console_number, next_to, queue_of, with_queue, with_turn, most_waiting, oldest_of, oldest_at, taken}
use Rattle.rules.specs.declared.Console.{Console}
use Rattle.rules.specs.declared.Console.TheVariants.{One, Two, Three, Four}
use Rattle.rules.specs.declared.Waiting.{Waiting}
use Rattle.queues.specs.Waits.{waiting_in, queues_in, Admits, round_from, waits}
use Rattle.queues.specs.declared.Queue.{Queue}
use Rattle.queues.specs.declared.Queues.{Queues}

-- ---- one queue of four

module _ (a b c d : Queue) (turn : Console) where
  abbrev among : Queues
  among = record { waiting = a ∷ b ∷ c ∷ d ∷ []; turn = turn }

  queue_among : (x : Console) (p : ℕ) (e : Queue) → p + 1 ≡ console_number x → waiting_in (get_or among.waiting p e) ≡ queue_of x (queues_in among)
  queue_among One p e h = let z : p ≡ 0 = omega arith in rw z
  queue_among Two p e h = let z : p ≡ 1 = omega arith in rw z
  queue_among Three p e h = let z : p ≡ 2 = omega arith in rw z
  queue_among Four p e h = let z : p ≡ 3 = omega arith in rw z

  with_among : (x : Console) (p : ℕ) (v : Queue) (t : Console) → p + 1 ≡ console_number x
      → queues_in (record { waiting = set among.waiting p v; turn = t }) ≡ with_turn t (with_queue x (waiting_in v) (queues_in among))
  with_among One p v t h = let z : p ≡ 0 = omega arith in rw z
  with_among Two p v t h = let z : p ≡ 1 = omega arith in rw z
  with_among Three p v t h = let z : p ≡ 2 = omega arith in rw z
  with_among Four p v t h = let z : p ≡ 3 = omega arith in rw z

-- what holds of four holds of a list of that length
four : (P : List Queue → Type 0) → ((a b c d : Queue) → P (a ∷ b ∷ c ∷ d ∷ [])) → (l : List Queue) → length l ≡ 4 → P l
four P f (a ∷ b ∷ c ∷ d ∷ []) e = f a b c d
four P f [] e = absurd (omega arith)
four P f (a ∷ []) e = absurd (omega arith)
four P f (a ∷ b ∷ []) e = absurd (omega arith)
four P f (a ∷ b ∷ c ∷ []) e = absurd (omega arith)
four P f (a ∷ b ∷ c ∷ d ∷ e' ∷ l) e = absurd (omega arith)

module _ (q : Queues) (n : length q.waiting ≡ 4) (x : Console) (p : ℕ) (at : p + 1 ≡ console_number x) where
  queue_is : (e : Queue) → waiting_in (get_or q.waiting p e) ≡ queue_of x (queues_in q)
  queue_is e =
      four (λ l. waiting_in (get_or l p e) ≡ queue_of x (queues_in (record { waiting = l; turn = q.turn })))
      (λ a b c d. queue_among a b c d q.turn x p e at) q.waiting n

  with_is : (v : Queue) (t : Console)
      → queues_in (record { waiting = set q.waiting p v; turn = t }) ≡ with_turn t (with_queue x (waiting_in v) (queues_in q))
  with_is v t =
      four (λ l. queues_in (record { waiting = set l p v; turn = t }) ≡ with_turn t (with_queue x (waiting_in v) (queues_in (record { waiting = l; turn = q.turn }))))
      (λ a b c d. with_among a b c d q.turn x p v t at) q.waiting n

-- ---- arrivals

-- no console has the number
pub nowhere : (q : Queues) (w : Waiting) → Admits q None w (record { answer = Refused no_such_console; queues = q })
unfolding answer_of accepting
nowhere q w = record { settled = refl; refused = λ m e. refl }

-- whose turn it is stays
same_turn : (c : Console) (ws : List Waiting) (q : Desks.Queues) → with_turn q.turn (with_queue c ws q) ≡ with_queue c ws q
same_turn One ws q = refl
same_turn Two ws q = refl
same_turn Three ws q = refl
same_turn Four ws q = refl

-- d is what the code reads at the place, and new what it leaves there
module _ (q : Queues) (w : Waiting) (n : length q.waiting ≡ 4) (x : Console) (p : ℕ) (at : p + 1 ≡ console_number x) (d new : Queue) where
  -- there is a place free
  pub admitted : length (waiting_in (get_or q.waiting p d)) < most_waiting → waiting_in new ≡ waiting_in (get_or q.waiting p d) ++ (w ∷ [])
      → Admits q (Some x) w (record { answer = Accepted 0; queues = record { waiting = set q.waiting p new; turn = q.turn } })
  unfolding answer_of accepting
  admitted free e =
      let held = queue_is q n x p at d in
      record {
        settled =
            ap (λ (y : Desks.Queues). record { answer = Accepted 0; queues = y })
            (with_is q n x p at new q.turn ∙ same_turn x (waiting_in new) (queues_in q) ∙ ap (λ (ws : List Waiting). with_queue x ws (queues_in q)) (rw held at e))
            ∙ rw (lt-ltb (length (queue_of x (queues_in q))) most_waiting (omega (arith, ap length held)));
        refused = λ m not. cc;
      }

  -- there is none
  pub not_admitted : length (waiting_in (get_or q.waiting p d)) ≡ most_waiting → new ≡ get_or q.waiting p d
      → Admits q (Some x) w (record { answer = Refused queue_full; queues = record { waiting = set q.waiting p new; turn = q.turn } })
  unfolding answer_of accepting
  not_admitted full same =
      rw (same, set-get_or q.waiting p d) record {
        settled = rw (le-ltb (length (queue_of x (queues_in q))) most_waiting (omega (arith, ap length (queue_is q n x p at d))));
        refused = λ m e. refl;
      }

-- ---- what a step takes

-- of these consoles, the first that has one
abbrev pub oldest_among : Desks.Queues → List Console → Option Desks.Taken
oldest_among q [] = None
oldest_among q (c ∷ cs) = or_else (oldest_at q c) (oldest_among q cs)

abbrev pub found_at : Desks.Queues → Option Console → Option Desks.Taken
found_at q None = None
found_at q (Some c) = oldest_at q c

among_found : (q : Desks.Queues) (cs : List Console) → oldest_among q cs ≡ found_at q (find (waits q) cs)
among_found q [] = refl
among_found q (c ∷ cs) = known (queue_of c q) refl (among_found q cs)
  where
    known : (ws : List Waiting) → queue_of c q ≡ ws → oldest_among q cs ≡ found_at q (find (waits q) cs)
        → or_else (oldest_of c ws q) (oldest_among q cs) ≡ found_at q (cond (not (nat_eq (length ws) 0)) (Some c) (find (waits q) cs))
    known [] e rest = rest
    known (w ∷ ws) e rest = rw (eqb-suc-zero (length ws)) (ap (λ vs. oldest_of c vs q) (sym e))

or_none : {A : Type 0} (x : Option A) → or_else x None ≡ x
or_none None = refl
or_none (Some x) = refl

pub taken_is : (q : Desks.Queues) (c : Option Console) → c ≡ find (waits q) (round_from q.turn) → found_at q c ≡ taken q
unfolding taken
taken_is q c e =
    ap (found_at q) e
    ∙ sym (among_found q (round_from q.turn))
    ∙ rw (or_none (oldest_at q (next_to (next_to (next_to q.turn)))))

-- its oldest edit is taken, where it has one; d is what the code reads at the console's place
module _ (q : Queues) (n : length q.waiting ≡ 4) (x : Console) (p : ℕ) (at : p + 1 ≡ console_number x) (d : Queue) where
  pub oldest_is : (new : Queue) (w : Waiting) (t : Console) → waiting_in (get_or q.waiting p d) ≡ w ∷ waiting_in new
      → t ≡ next_to x → Some record { console = x; waiting = w; queues = queues_in (record { waiting = set q.waiting p new; turn = t }) } ≡ oldest_at (queues_in q) x
  oldest_is new w t e g =
      let ws : queue_of x (queues_in q) ≡ w ∷ waiting_in new = sym (queue_is q n x p at d) ∙ e in
      rw (g, with_is q n x p at new (next_to x), ws)

  pub none_is : waiting_in (get_or q.waiting p d) ≡ [] → None ≡ oldest_at (queues_in q) x
  none_is e = let ws : queue_of x (queues_in q) ≡ [] = sym (queue_is q n x p at d) ∙ e in rw ws
