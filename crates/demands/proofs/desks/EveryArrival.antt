-- Each arrival is settled; and what an arrival makes of the queues.
use Prim.Native.Nat.{ℕ, zero, suc}
use mathlib.Core.Path.{◌≡◌, refl, sym, ap, ◌∙◌}
use mathlib.Core.Bool.{Bool, true, false, ◌&&◌, and-false}
use mathlib.Core.List.{[], ◌∷◌, ◌++◌, append-nil}
use Rattle.std.specs.Prelude.{Option, None, Some}
use borrow.Author.Tests.{lt-ltb, le-ltb, ne_eqb, eqb-true, eqb-false}
use lib.Dec.{ltb, eqb}
use lib.ListN.{length}
use Rattle.base.specs.Choice.{pick}
use Rattle.rules.specs.Answers.{queue_full, unless, answer_of, accepting}
use Rattle.rules.specs.Offices.{Held}
use Rattle.rules.specs.Stations.{Both, office_of}
use Rattle.rules.specs.Desks.{console_number, console_of, Queues, queue_of, with_queue, most_waiting, refusal_at, refusal_behind, arrival_refusal, queued_at, arrival_by, arrival_of, Arrival, accepted_by, Arrive}
use Rattle.rules.specs.DeskDemands.{ArrivalSettled}
use Rattle.rules.specs.declared.Console.{Console}
use Rattle.rules.specs.declared.Waiting.{Waiting}
use Rattle.demands.proofs.stations.Calls.{number_named as office_named}
use Rattle.demands.proofs.desks.Consoles.{number_named, named_number, nowhere_named, same_console, queue_own, queue_other, turn_stays}
use Rattle.rules.specs.declared.Which.{Which}

module _ (q : Queues) (n : ℕ) (w : Waiting) where
  -- by what the two numbers name
  abbrev arrival_at : Option Which → Option Console → Arrival
  arrival_at o c = arrival_by (refusal_behind o (refusal_at c q)) c w q

  named : (o : Option Which) (c : Option Console) → office_of w.office ≡ o → console_of n ≡ c → arrival_of q n w ≡ arrival_at o c
  unfolding arrival_of arrival_refusal
  named o c e f = rw (e, f)

  pub every_arrival : ArrivalSettled q n w
  unfolding answer_of accepting
  every_arrival =
      record {
        nobody = λ a b. named None (console_of n) (rw (ne_eqb w.office 1 a, ne_eqb w.office 2 b)) refl;
        nowhere = λ o e h. named (Some o) None (ap office_of e ∙ office_named o) (nowhere_named n h);
        full = λ o e c f h. named (Some o) (Some c) (ap office_of e ∙ office_named o) (ap console_of f ∙ number_named c) ∙ rw (le-ltb (length (queue_of c q)) most_waiting h);
        accepted = λ o e c f h. named (Some o) (Some c) (ap office_of e ∙ office_named o) (ap console_of f ∙ number_named c) ∙ rw (lt-ltb (length (queue_of c q)) most_waiting h);
      }

  -- ---- what waits at console c then

  abbrev afterwards : (c : Console) → Option Which → Option Console → Type 0
  afterwards c o x =
      queue_of c (accepting (refusal_behind o (refusal_at x q)) (queued_at x w q) q)
      ≡ queue_of c q ++ pick (eqb n (console_number c) && eqb (refusal_behind o (refusal_at x q)) 0) (w ∷ []) []

  -- a refusal changes nothing
  refused_stays : (c : Console) (t : Bool) → queue_of c q ≡ queue_of c q ++ pick (t && false) (w ∷ []) []
  refused_stays c t = rw (and-false t, append-nil)

  -- one that is accepted is the last of its queue, and of no other
  queued : (c e : Console) → n ≡ console_number e → queue_of c (with_queue e (queue_of e q ++ (w ∷ [])) q) ≡ queue_of c q ++ pick (eqb n (console_number c) && true) (w ∷ []) []
  queued c e is = go (eqb n (console_number c)) refl
    where
      go : (t : Bool) → eqb n (console_number c) ≡ t → queue_of c (with_queue e (queue_of e q ++ (w ∷ [])) q) ≡ queue_of c q ++ pick (t && true) (w ∷ []) []
      go true f = rw (same_console c e (sym (eqb-true n (console_number c) f) ∙ is)) (queue_own e _ q)
      go false f = rw append-nil (queue_other e c _ q (λ same. eqb-false n (console_number c) f (is ∙ same)))

  arrived_at : (c : Console) (o : Option Which) (x : Option Console) → console_of n ≡ x → afterwards c o x
  unfolding accepting
  arrived_at c None x e = refused_stays c (eqb n (console_number c))
  arrived_at c (Some o) None e = refused_stays c (eqb n (console_number c))
  arrived_at c (Some o) (Some d) e = go (ltb (length (queue_of d q)) most_waiting)
    where
      go : (t : Bool)
          → queue_of c (accepting (unless t queue_full 0) (with_queue d (queue_of d q ++ (w ∷ [])) q) q)
          ≡ queue_of c q ++ pick (eqb n (console_number c) && eqb (unless t queue_full 0) 0) (w ∷ []) []
      go true = queued c d (named_number n d e)
      go false = refused_stays c (eqb n (console_number c))

  pub arrived : (c : Console) (h : Both Held) → queue_of c (arrival_of q n w).queues ≡ queue_of c q ++ accepted_by c (record { held = h; queues = q }) (Arrive n w)
  unfolding arrival_of arrival_refusal accepted_by
  arrived c h = arrived_at c (office_of w.office) (console_of n) refl

  -- whose turn it is stays
  turn_at : (r : ℕ) (x : Option Console) → (accepting r (queued_at x w q) q).turn ≡ q.turn
  unfolding accepting
  turn_at zero None = refl
  turn_at zero (Some c) = turn_stays c (queue_of c q ++ (w ∷ [])) q
  turn_at (suc r) x = refl

  pub turn_arrived : (arrival_of q n w).queues.turn ≡ q.turn
  unfolding arrival_of
  turn_arrived = turn_at (arrival_refusal q n w) (console_of n)
