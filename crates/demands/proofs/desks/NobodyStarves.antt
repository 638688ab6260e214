-- Nobody is starved. While an edit waits at console c, each step takes one from c, or brings the turn nearer to it: so much is between two edits of c as
-- there are other consoles.
use Prim.Native.Nat.{ℕ, zero, suc, ◌+◌, ◌*◌, ◌-◌, ◌≤◌, ◌<◌}
use mathlib.Core.Path.{◌≡◌, refl, sym, ap, ◌∙◌}
use mathlib.Core.Logic.{⊎_elim}
use mathlib.Core.Bool.{Bool, true, false}
use mathlib.Core.List.{List, [], ◌∷◌, ◌++◌}
use Rattle.std.specs.Prelude.{Option, None, Some}
use native.Mathlib.Nat.{eq-or-lt_of_le}
use native.Mathlib.Omega.{arith}
use borrow.Author.Tests.{eqb-true, eqb-false, ltb-true, ltb-false}
use lib.Dec.{eqb, ltb}
use lib.ListN.{length, take, length-append}
use lib.Seq.{take-append-le}
use Rattle.base.specs.Choice.{pick}
use Rattle.rules.specs.Desks.{console_number, next_to, Queues, queue_of, Taken, taken, Desk, step_with, step_of, Event, Arrive, Step, Ask, desk_by, gathered, accepted_by, taken_for, carried_by, carried_from, steps_in}
use Rattle.rules.specs.DeskDemands.{further, NobodyStarves}
use Rattle.rules.specs.declared.Console.{Console}
use Rattle.rules.specs.declared.Console.TheVariants.{One, Two, Three, Four}
use Rattle.demands.proofs.desks.Consoles.{same_console, further_further, way_to}
use Rattle.demands.proofs.desks.Taken.{TakenFrom, taken_from, taken_some}
use Rattle.demands.proofs.desks.EveryArrival.{turn_arrived}
use Rattle.demands.proofs.desks.OnceInOrder.{own_then, own_before, other_then, event_once, once_in_order}

-- three further on from the next one a console is itself again
round : (c : Console) → further 3 (next_to c) ≡ c
unfolding further
round One = refl
round Two = refl
round Three = refl
round Four = refl

-- from the next one it is that much nearer
nearer : (m n : ℕ) (c : Console) → m < n → further (n - (m + 1)) (next_to (further m c)) ≡ further n c
unfolding further
nearer m n c h =
    let places : n - (m + 1) + suc m ≡ n = omega arith in
    further_further (n - (m + 1)) (suc m) c ∙ ap (λ (k : ℕ). further k c) places

-- what is claimed of console c from desk d on, where it is n further on than the turn
abbrev Served : Console → List Event → Type 0
Served c es =
    (d : Desk) (k n : ℕ) → n < 4 → further n d.queues.turn ≡ c → k < length (queue_of c d.queues) → 4 * k + n + 1 ≤ steps_in es
    → k + 1 ≤ length (carried_from c d es)

module _ (c : Console) (es : List Event) (later : Served c es) where
  -- an event that is no step
  other_served :
      (d : Desk) (e : Event) (k n : ℕ) → n < 4 → carried_by c d e ≡ [] → (desk_by d e).queues.turn ≡ d.queues.turn
      → further n d.queues.turn ≡ c → k < length (queue_of c d.queues) → 4 * k + n + 1 ≤ steps_in es
      → k + 1 ≤ length (carried_from c d (e ∷ es))
  unfolding gathered
  other_served d e k n few idle turn there waits steps =
      let more : queue_of c (desk_by d e).queues ≡ queue_of c d.queues ++ accepted_by c d e = rw idle at (event_once d c e) in
      let longer : k < length (queue_of c (desk_by d e).queues) =
      rw more (omega (arith, length-append (queue_of c d.queues) (accepted_by c d e))) in
      rw idle (later (desk_by d e) k n few (rw turn there) longer steps)

  -- a step that takes t
  module _ (d : Desk) (t : Taken) (f : TakenFrom d.queues t) (k n : ℕ) (few : n < 4) (there : further n d.queues.turn ≡ c)
      (waits : k < length (queue_of c d.queues)) (steps : 4 * k + n + 1 ≤ suc (steps_in es)) where
    abbrev next : Desk
    next = (step_with d (Some t)).desk

    turn_next : next.queues.turn ≡ next_to t.console
    turn_next = ap (λ (q : Queues). q.turn) f.queues

    -- from c
    own_served : console_number t.console ≡ console_number c → k + 1 ≤ suc (length (carried_from c next es))
    own_served same = go k refl
      where
        here : next_to t.console ≡ next_to c
        here = ap next_to (same_console t.console c same)

        rest_length : length (queue_of c d.queues) ≡ suc (length f.rest)
        rest_length = ap length (own_before d.queues t f c same)

        left : length (queue_of c next.queues) ≡ length f.rest
        left = ap length (own_then d.queues t f c same)

        go : (m : ℕ) → k ≡ m → k + 1 ≤ suc (length (carried_from c next es))
        go zero i = omega arith
        go (suc m) i =
            let l = later next m 3 (omega arith) (rw (turn_next, here) (round c)) (omega (arith, left, rest_length, waits)) (omega (arith, steps)) in
            omega (arith, l)

    -- from another, which stands before it
    closer : ¬ (console_number t.console ≡ console_number c) → f.far < n
    closer unlike = go (ltb f.far n) refl
      where
        -- were it not before, it would be c, for c has an edit
        go : (s : Bool) → ltb f.far n ≡ s → f.far < n
        go true i = ltb-true f.far n i
        go false i =
            ⊎_elim
            (λ (here : n ≡ f.far). absurd (unlike (ap console_number (f.console ∙ ap (λ (m : ℕ). further m d.queues.turn) (sym here) ∙ there))))
            (λ (less : n < f.far).
            let empty = ap (λ (x : Console). length (queue_of x d.queues)) (sym there) ∙ ap length (f.before n less) in
            absurd (omega (arith, empty, waits)))
            (eq-or-lt_of_le (ltb-false f.far n i))

    nearer_served : ¬ (console_number t.console ≡ console_number c) → k + 1 ≤ length (carried_from c next es)
    nearer_served unlike =
        let near : f.far < n = closer unlike in
        let same = other_then d.queues t f c unlike in
        later next k (n - (f.far + 1)) (omega arith)
        (rw (turn_next, f.console) (nearer f.far n d.queues.turn near ∙ there))
        (rw same waits) (omega (arith, near, steps))

    step_served : k + 1 ≤ length (taken_for c (Some t) ++ carried_from c next es)
    step_served = go (eqb (console_number t.console) (console_number c)) refl
      where
        go : (s : Bool) → eqb (console_number t.console) (console_number c) ≡ s → k + 1 ≤ length (pick s (t.waiting ∷ []) [] ++ carried_from c next es)
        go true i = own_served (eqb-true (console_number t.console) (console_number c) i)
        go false i = nearer_served (eqb-false (console_number t.console) (console_number c) i)

  step_taken :
      (d : Desk) (k n : ℕ) → n < 4 → further n d.queues.turn ≡ c → k < length (queue_of c d.queues) → 4 * k + n + 1 ≤ suc (steps_in es)
      → (x : Option Taken) → taken d.queues ≡ x → k + 1 ≤ length (taken_for c x ++ carried_from c (step_with d x).desk es)
  step_taken d k n few there waits steps None e =
      taken_some d.queues c n few there (λ empty. let z : length (queue_of c d.queues) ≡ 0 = ap length empty in omega (arith, z, waits)) e
  step_taken d k n few there waits steps (Some t) e = step_served d t (taken_from d.queues t e) k n few there waits steps

served : (c : Console) (es : List Event) → Served c es
unfolding steps_in carried_by desk_by step_of gathered
served c [] d k n few there waits steps = absurd (omega arith)
served c (Arrive m w ∷ es) d k n few there waits steps =
    other_served c es (served c es) d (Arrive m w) k n few refl (turn_arrived d.queues m w) there waits steps
served c (Ask call ∷ es) d k n few there waits steps = other_served c es (served c es) d (Ask call) k n few refl refl there waits steps
served c (Step ∷ es) d k n few there waits steps = step_taken c es (served c es) d k n few there waits steps (taken d.queues) refl

-- two lists that go on differently from a common front
same_front : {A : Type 0} (n : ℕ) (a x b y : List A) → a ++ x ≡ b ++ y → n ≤ length a → n ≤ length b → take n a ≡ take n b
same_front n a x b y e h l = sym (take-append-le n a x h) ∙ ap (take n) e ∙ take-append-le n b y l

pub nobody_starves : NobodyStarves
nobody_starves d c k es waits steps =
    let w = way_to d.queues.turn c in
    let made = served c es d k w.far w.few w.there waits (omega (arith, w.few)) in
    same_front (k + 1) (carried_from c d es) _ (queue_of c d.queues) _ (once_in_order d c es) made (omega arith)
