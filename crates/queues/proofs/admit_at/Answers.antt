-- `queues::admit_at` meets its contract.
use Rattle.std.proofs.Common.{◌≡◌, arith, Some, None, Err}
use Rattle.rules.specs.Desks.{console_of}
use Rattle.rules.specs.declared.refusals.Refusal.TheVariants.{NoSuchConsole, QueueFull}
use Rattle.queues.proofs.Turns.{admitted, not_admitted, nowhere}
use Rattle.queues.proofs.admit_at.Goals as goal

pub returns-in_err-console : goal.returns-in_err-console
returns-in_err-console c =
    let none : console_of c.args.n ≡ None = grind (arith, c.in_err-console.ensures) in
    let e : c.from_residual.result ≡ Err NoSuchConsole = grind (arith, c.in_err-console.ensures) in
    rw (none, e) (nowhere c.args.q.now c.args.w)

pub returns-in_err-try_push : goal.returns-in_err-try_push
returns-in_err-try_push c =
    let some : console_of c.args.n ≡ Some c.in_ok-console.console = grind (arith, c.in_ok-console.ensures) in
    let pushed = c.in_err-try_push.ensures in
    let e : c.from_residual-in_err-try_push.result ≡ Err QueueFull = grind (arith, pushed.refused) in
    rw (some, e) (not_admitted c.args.q.now c.args.w (omega arith) _ _ c.place.ensures.place _ _ pushed.full pushed.kept)

pub returns : goal.returns
returns c =
    let some : console_of c.args.n ≡ Some c.in_ok-console.console = grind (arith, c.in_ok-console.ensures) in
    let pushed = c.in_ok-try_push.ensures in
    rw some (admitted c.args.q.now c.args.w (omega arith) _ _ c.place.ensures.place _ _ pushed.room pushed.pushed)
