-- Demand 1, of all calls of an office: those of its unit by EveryAnswer, and the meter's.
use Prim.Native.Nat.{ℕ, suc}
use mathlib.Core.Bool.{Bool, true, false}
use mathlib.Core.List.{[]}
use mathlib.Core.Path.{◌≡◌, refl, ap}
use lib.Dec.{leb}
use lib.ListN.{length}
use Rattle.rules.specs.Answers.{window_empty, unless, answer_of, accepting, Refused, Accepted}
use Rattle.rules.specs.Meter.{hearing, window_of, mays_points, points_unless, roughness_refusal, roughness_of, points_at}
use Rattle.rules.specs.Offices.{Held, Plan, Send, AskRoughness, OfficeOutcome, office_refusal, lent_bytes, planned, office_outcome}
use Rattle.rules.specs.Demands.{office_returned, office_altered, EveryOfficeAnswer, EveryRoughness}
use Rattle.demands.proofs.EveryAnswer.{accepted_answer, every_answer}

-- what the meter refuses
meter_refused :
    (o new : Held) (n m : ℕ) → n ≡ suc m → new ≡ o
    → ◌≡◌ {A = OfficeOutcome} record { answer = answer_of n 0; held = new; bytes = [] } record { answer = Refused (suc m); held = o; bytes = [] }
unfolding answer_of
meter_refused o new n m e same = rw (e, same)

pub every_office_answer : EveryOfficeAnswer
unfolding office_refusal lent_bytes office_outcome office_returned office_altered hearing accepting
every_office_answer o (Plan c) =
    let settled = every_answer o.unit c in
    record { accepted = settled.accepted; held = λ e. refl; refused = λ n e. ap (planned o.heard) (settled.refused n e) }
every_office_answer o (Send s) =
    record { accepted = accepted_answer _ 0; held = λ e. rw e; refused = λ n e. meter_refused o _ _ n e (rw e) }
every_office_answer o AskRoughness =
    record { accepted = accepted_answer _ 0; held = λ e. refl; refused = λ n e. meter_refused o o _ n e refl }

-- the points for a window

points_given : (n points marker : ℕ) → n ≡ 0 → points_unless n points marker ≡ Accepted (points_at points marker)
unfolding points_unless answer_of
points_given n points marker e = rw e

points_refused :
    (t : Bool) (points marker : ℕ) → ¬ (unless t window_empty 0 ≡ 0)
    → points_unless (unless t window_empty 0) points marker ≡ Refused window_empty
unfolding points_unless answer_of
points_refused true points marker some = absurd (some refl)
points_refused false points marker some = refl

pub every_roughness : EveryRoughness
unfolding roughness_of roughness_refusal
every_roughness h =
    record {
      accepted = points_given _ _ _;
      refused = points_refused (leb 1 (length (window_of h))) (mays_points (window_of h)) h.marker;
    }
