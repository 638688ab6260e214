-- Arrivals: what they leave.
use Prim.Native.Nat.{ℕ}
use mathlib.Core.Path.{◌≡◌, refl, sym, ap, ◌∙◌}
use Rattle.std.specs.Prelude.{None}
use Rattle.rules.specs.Desks as Desks
use Rattle.rules.specs.Desks.{console_of, arrival_refusal, arrival_of, Arrive, desk_by, answer_to}
use Rattle.rules.specs.Answers.{no_such_office, Refused}
use Rattle.rules.specs.Stations.{office_number, office_of}
use Rattle.rules.specs.declared.Waiting.{Waiting}
use Rattle.demands.proofs.desks.EveryArrival.{every_arrival}
use Rattle.queues.specs.Waits.{queues_in, Arrival, Admits}
use Rattle.queues.specs.declared.Queues.{Queues}
use Rattle.station.proofs.Numbers.{named_some}
use Rattle.desk.specs.Kept.{DeskReply, Arrives, Happens}
use Rattle.desk.specs.declared.Desk.{Desk}
use Rattle.rules.specs.declared.Which.{Which}
use Rattle.rules.specs.declared.Which.TheVariants.{First, Second}

module _ (d : Desk) (n : ℕ) (w : Waiting) where
  -- no office has the number
  pub nobody_arrives : office_of w.office ≡ None → Arrives d n w (record { answer = Refused no_such_office; desk = d })
  nobody_arrives nobody =
      let not_named : (o : Which) → ¬ (w.office ≡ office_number o) = λ o e. let some = named_some w.office o e in cc in
      let is = (every_arrival (queues_in d.queues) n w).nobody (not_named First) (not_named Second) in
      record {
        answer = sym (ap (λ (a : Desks.Arrival). a.answer) is);
        queues = sym (ap (λ (a : Desks.Arrival). a.queues) is);
        station = refl;
        refused = λ m e. refl;
      }

  -- by what the queues reply
  pub arrives :
      (o : Which) → w.office ≡ office_number o → (a : Arrival) → Admits d.queues (console_of n) w a
      → Arrives d n w (record { answer = a.answer; desk = record { station = d.station; queues = a.queues } })
  unfolding arrival_of arrival_refusal
  arrives o office a admits =
      let same = admits.settled ∙ sym is in
      record {
        answer = ap (λ (x : Desks.Arrival). x.answer) same;
        queues = ap (λ (x : Desks.Arrival). x.queues) same;
        station = refl;
        refused = λ m e. ap (λ (q : Queues). record { station = d.station; queues = q }) (admits.refused m e);
      }
    where
      is : arrival_of (queues_in d.queues) n w ≡ Desks.arrival_by (Desks.refusal_at (console_of n) (queues_in d.queues)) (console_of n) w (queues_in d.queues)
      is = rw (named_some w.office o office)

  -- from what the desk keeps
  pub arrival_happens : (r : DeskReply) → Arrives d n w r → Happens d (Arrive n w) r
  unfolding answer_to desk_by
  arrival_happens r a h k =
      record {
        answer = a.answer ∙ ap (λ (q : Desks.Queues). (arrival_of q n w).answer) k.queues;
        desk =
            record {
              station = rw a.station k.station;
              queues = a.queues ∙ ap (λ (q : Desks.Queues). (arrival_of q n w).queues) k.queues;
            };
      }
