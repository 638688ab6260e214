-- No more wait at a console than there are places.
use Prim.Native.Nat.{◌≤◌, ◌<◌}
use mathlib.Core.Path.{◌≡◌, refl, sym, ap}
use mathlib.Core.Bool.{Bool, true, false}
use mathlib.Core.List.{List, [], ◌∷◌, ◌++◌}
use Rattle.std.specs.Prelude.{Option, None, Some}
use native.Mathlib.Omega.{arith}
use borrow.Author.Tests.{eqb-true, eqb-false, ltb-true}
use lib.Dec.{eqb, ltb}
use lib.ListN.{length, length-append}
use Rattle.rules.specs.Answers.{queue_full, unless, accepting}
use Rattle.rules.specs.Stations.{office_of}
use Rattle.rules.specs.Desks.{console_number, console_of, Queues, fresh_queues, queue_of, with_queue, most_waiting, refusal_at, refusal_behind, arrival_refusal, queued_at, arrival_of, Desk, fresh_desk, Event, Arrive, Step, Ask, desk_by, desk_from, desk_after, accepted_by, carried_by}
use Rattle.rules.specs.declared.Console.{Console}
use Rattle.rules.specs.declared.Console.TheVariants.{One, Two, Three, Four}
use Rattle.rules.specs.declared.Waiting.{Waiting}
use Rattle.demands.proofs.desks.Consoles.{same_console, queue_own, queue_other}
use Rattle.demands.proofs.desks.OnceInOrder.{event_once}
use Rattle.rules.specs.declared.Which.{Which}

abbrev Few : Queues → Type 0
Few q = (c : Console) → length (queue_of c q) ≤ most_waiting

-- ---- an arrival

module _ (q : Queues) (w : Waiting) (few : Few q) where
  -- one joins a queue with a place free
  queued_few : (e : Console) → length (queue_of e q) < most_waiting → Few (with_queue e (queue_of e q ++ (w ∷ [])) q)
  queued_few e free c = go (eqb (console_number e) (console_number c)) refl
    where
      go : (t : Bool) → eqb (console_number e) (console_number c) ≡ t → length (queue_of c (with_queue e (queue_of e q ++ (w ∷ [])) q)) ≤ most_waiting
      go true i =
          rw (sym (same_console e c (eqb-true (console_number e) (console_number c) i)), queue_own e (queue_of e q ++ (w ∷ [])) q)
          (omega (arith, length-append (queue_of e q) (w ∷ [])))
      go false i = rw (queue_other e c (queue_of e q ++ (w ∷ [])) q (eqb-false (console_number e) (console_number c) i)) (few c)

  arrived_few : (o : Option Which) (x : Option Console) → Few (accepting (refusal_behind o (refusal_at x q)) (queued_at x w q) q)
  unfolding accepting
  arrived_few None x = few
  arrived_few (Some o) None = few
  arrived_few (Some o) (Some e) = go (ltb (length (queue_of e q)) most_waiting) refl
    where
      go : (t : Bool) → ltb (length (queue_of e q)) most_waiting ≡ t → Few (accepting (unless t queue_full 0) (with_queue e (queue_of e q ++ (w ∷ [])) q) q)
      go true i = queued_few e (ltb-true (length (queue_of e q)) most_waiting i)
      go false i = few

-- ---- events

-- a step adds none
step_few : (d : Desk) → Few d.queues → Few (desk_by d Step).queues
unfolding accepted_by
step_few d few c =
    let same = ap length (event_once d c Step) in
    let before = length-append (carried_by c d Step) (queue_of c (desk_by d Step).queues) in
    let after = length-append (queue_of c d.queues) [] in
    omega (arith, few c, same, before, after)

event_few : (d : Desk) (e : Event) → Few d.queues → Few (desk_by d e).queues
unfolding desk_by arrival_of arrival_refusal
event_few d (Arrive n w) few = arrived_few d.queues w few (office_of w.office) (console_of n)
event_few d Step few = step_few d few
event_few d (Ask call) few = few

run_few : (es : List Event) (d : Desk) → Few d.queues → Few (desk_from d es).queues
unfolding desk_from
run_few [] d few = few
run_few (e ∷ es) d few = run_few es (desk_by d e) (event_few d e few)

none_wait : (c : Console) → queue_of c fresh_queues ≡ []
unfolding fresh_queues
none_wait One = refl
none_wait Two = refl
none_wait Three = refl
none_wait Four = refl

pub few_wait : (es : List Event) (c : Console) → length (queue_of c (desk_after es).queues) ≤ most_waiting
unfolding desk_after fresh_desk
few_wait es = run_few es fresh_desk (λ c. rw (none_wait c) (omega arith))
