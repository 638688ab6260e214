-- Each step is settled.
use mathlib.Core.Path.{◌≡◌, refl, sym, ap, ◌∙◌}
use mathlib.Core.List.{List}
use Rattle.std.specs.Prelude.{Option, None, Some}
use borrow.Author.Tests.{eq-eqb, ne_eqb}
use Rattle.rules.specs.Desks.{console_number, Desk, Taken, taken, step_with, step_of, call_for, calls_at, taken_for, carried_by, Step}
use Rattle.rules.specs.DeskDemands.{Idles, Carries, EveryStep}
use Rattle.rules.specs.declared.Console.{Console}
use Rattle.rules.specs.declared.Waiting.{Waiting}
use Rattle.demands.proofs.desks.Consoles.{same_console}
use Rattle.demands.proofs.desks.Taken.{taken_of, taken_none, taken_at}

-- by what is taken
module _ (d : Desk) (t : Option Taken) (is : taken d.queues ≡ t) where
  step_with_lem : step_of d ≡ step_with d t
  unfolding step_of
  step_with_lem = ap (step_with d) is

  call_with : calls_at d Step ≡ call_for t
  unfolding calls_at
  call_with = ap call_for is

  carried_with : (c : Console) → carried_by c d Step ≡ taken_for c t
  unfolding carried_by
  carried_with c = ap (taken_for c) is

idles : (d : Desk) → taken d.queues ≡ None → Idles d
idles d is = record { step = step_with_lem d None is; call = call_with d None is; none = carried_with d None is }

carries : (d : Desk) (c : Console) (w : Waiting) (ws : List Waiting) → taken d.queues ≡ Some (taken_of d.queues c w ws) → Carries d c w ws
carries d c w ws is =
    let t = Some (taken_of d.queues c w ws) in
    record {
      step = step_with_lem d t is;
      call = call_with d t is;
      own = carried_with d t is c ∙ rw (eq-eqb (console_number c) (console_number c) refl);
      others = λ e unlike.
          carried_with d t is e ∙ rw (ne_eqb (console_number c) (console_number e) (λ same. unlike (sym (same_console c e same))));
    }

pub every_step : EveryStep
every_step d =
    record {
      idle = λ empty. idles d (taken_none d.queues empty);
      carried = λ n w ws few before here. carries d _ w ws (taken_at d.queues n w ws few before here);
    }
