-- An edit that arrives is carried out in time, after those that it finds in its queue.
use Prim.Native.Nat.{ℕ, zero, suc, ◌+◌}
use mathlib.Core.Path.{◌≡◌, refl, ap, ◌∙◌}
use mathlib.Core.List.{[], ◌∷◌, ◌++◌}
use native.Mathlib.Omega.{arith}
use borrow.Author.Tests.{eq-eqb}
use lib.ListN.{length, take, length-append}
use lib.Seq.{take_all}
use Rattle.rules.specs.Answers.{answer_of, Accepted}
use Rattle.rules.specs.Desks.{console_number, queue_of, arrival_refusal, arrival_of, Desk, Arrive, desk_by, accepted_by}
use Rattle.rules.specs.DeskDemands.{CarriedInTime}
use Rattle.rules.specs.declared.Console.{Console}
use Rattle.rules.specs.declared.Waiting.{Waiting}
use Rattle.demands.proofs.desks.EveryArrival.{arrived}
use Rattle.demands.proofs.desks.NobodyStarves.{nobody_starves}

none_refused : (n : ℕ) → answer_of {A = ℕ} n 0 ≡ Accepted 0 → n ≡ 0
unfolding answer_of
none_refused zero e = refl
none_refused (suc n) e = cc

module _ (d : Desk) (c : Console) (w : Waiting) (ok : (arrival_of d.queues (console_number c) w).answer ≡ Accepted 0) where
  none_against : arrival_refusal d.queues (console_number c) w ≡ 0
  unfolding arrival_of
  none_against = none_refused (arrival_refusal d.queues (console_number c) w) ok

  -- it is the last of its queue
  last : queue_of c (desk_by d (Arrive (console_number c) w)).queues ≡ queue_of c d.queues ++ (w ∷ [])
  unfolding desk_by accepted_by
  last = arrived d.queues (console_number c) w c d.held ∙ rw (none_against, eq-eqb (console_number c) (console_number c) refl)

pub carried_in_time : CarriedInTime
carried_in_time d c w es ok steps =
    let before = queue_of c d.queues in
    let e = last d c w ok in
    let size = length-append before (w ∷ []) in
    let found : length (queue_of c (desk_by d (Arrive (console_number c) w)).queues) ≡ length (before ++ (w ∷ [])) = ap length e in
    nobody_starves (desk_by d (Arrive (console_number c) w)) c (length before) es (omega (arith, found, size)) steps
    ∙ ap (take (length before + 1)) e
    ∙ take_all (length before + 1) (before ++ (w ∷ [])) (omega (arith, size))
