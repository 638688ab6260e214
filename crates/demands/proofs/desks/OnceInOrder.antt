-- Each accepted edit is carried out once, and in the order of its queue.
use mathlib.Core.Path.{◌≡◌, refl, sym, ap, ◌∙◌}
use mathlib.Core.Bool.{Bool, true, false}
use mathlib.Core.List.{List, [], ◌∷◌, ◌++◌, append-nil, append_assoc}
use Rattle.std.specs.Prelude.{Option, None, Some}
use borrow.Author.Tests.{eqb-true, eqb-false}
use lib.Dec.{eqb}
use Rattle.base.specs.Choice.{pick}
use Rattle.rules.specs.Desks.{console_number, Queues, queue_of, Taken, taken, Desk, step_with, step_of, Event, Arrive, Step, Ask, desk_by, desk_from, gathered, accepted_by, taken_for, carried_by}
use Rattle.rules.specs.DeskDemands.{OnceInOrder}
use Rattle.rules.specs.declared.Console.{Console}
use Rattle.rules.specs.declared.Waiting.{Waiting}
use Rattle.demands.proofs.desks.Consoles.{same_console, queue_own, queue_other, queue_turn}
use Rattle.demands.proofs.desks.Taken.{TakenFrom, taken_from}
use Rattle.demands.proofs.desks.EveryArrival.{arrived}

-- what is taken from its own console, and what from another
module _ (q : Queues) (t : Taken) (f : TakenFrom q t) (c : Console) where
  pub own_then : console_number t.console ≡ console_number c → queue_of c t.queues ≡ f.rest
  own_then same =
      rw (f.queues, queue_turn)
      (rw (same_console t.console c same) (queue_own c f.rest q))

  pub own_before : console_number t.console ≡ console_number c → queue_of c q ≡ t.waiting ∷ f.rest
  own_before same = rw (same_console t.console c same) at f.queue

  pub other_then : ¬ (console_number t.console ≡ console_number c) → queue_of c t.queues ≡ queue_of c q
  other_then unlike = rw (f.queues, queue_turn) (queue_other t.console c f.rest q unlike)

  taken_once : taken_for c (Some t) ++ queue_of c t.queues ≡ queue_of c q
  taken_once = go (eqb (console_number t.console) (console_number c)) refl
    where
      go : (s : Bool) → eqb (console_number t.console) (console_number c) ≡ s → pick s (t.waiting ∷ []) [] ++ queue_of c t.queues ≡ queue_of c q
      go true e =
          let same = eqb-true (console_number t.console) (console_number c) e in
          ap (λ (ws : List Waiting). t.waiting ∷ ws) (own_then same) ∙ sym (own_before same)
      go false e = other_then (eqb-false (console_number t.console) (console_number c) e)

-- one event
step_once : (d : Desk) (c : Console) (x : Option Taken) → taken d.queues ≡ x → taken_for c x ++ queue_of c (step_with d x).desk.queues ≡ queue_of c d.queues
step_once d c None e = refl
step_once d c (Some t) e = taken_once d.queues t (taken_from d.queues t e) c

pub event_once :
    (d : Desk) (c : Console) (e : Event) → carried_by c d e ++ queue_of c (desk_by d e).queues ≡ queue_of c d.queues ++ accepted_by c d e
unfolding carried_by accepted_by desk_by step_of
event_once d c (Arrive n w) = arrived d.queues n w c d.held
event_once d c Step = step_once d c (taken d.queues) refl ∙ sym (append-nil (queue_of c d.queues))
event_once d c (Ask call) = sym (append-nil (queue_of c d.queues))

-- lists joined at both ends
joined : (a b x y w v z : List Waiting) → b ++ x ≡ y ++ w → a ++ y ≡ v ++ z → (a ++ b) ++ x ≡ v ++ (z ++ w)
joined a b x y w v z p q = append_assoc a b x ∙ ap (λ (l : List Waiting). a ++ l) p ∙ sym (append_assoc a y w) ∙ ap (λ (l : List Waiting). l ++ w) q ∙ append_assoc v z w

pub once_in_order : OnceInOrder
unfolding gathered desk_from
once_in_order d c [] = sym (append-nil (queue_of c d.queues))
once_in_order d c (e ∷ es) =
    joined (carried_by c d e) (gathered (carried_by c) (desk_by d e) es) _ _ _ (queue_of c d.queues) (accepted_by c d e)
    (once_in_order (desk_by d e) c es) (event_once d c e)
