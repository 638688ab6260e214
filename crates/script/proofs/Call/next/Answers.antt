-- `script::Call::next` meets its contract.
use mathlib.Core.Path.{refl, ap, ◌∙◌}
use native.Mathlib.Omega.{arith}
use lib.ListN.{length}
use lib.Seq.{length-take-le}
use Rattle.script.proofs.Front.{queue_room, cut, stands}
use Rattle.script.proofs.Call.next.Goals as goal

pub returns-in_err-head : goal.returns-in_err-head
returns-in_err-head c = rw c.from_residual.ensures (omega (arith, c.in_err-head.ensures.cases))

pub returns-in_err-body : goal.returns-in_err-body
returns-in_err-body c =
    let head = c.in_ok-head.ensures.cases in
    rw c.from_residual-in_err-body.ensures (cut _ _ _ _ head.1 head.2 c.body_of.ensures c.in_err-body.ensures.cases)

pub invariant_of-call : goal.invariant_of-call
invariant_of-call c =
    let body = c.in_ok-body.ensures.cases in
    record { edit_follows = λ e. queue_room _ _ _ c.body_of.ensures (ap length body.1 ∙ length-take-le _ _ body.0) e }

pub returns : goal.returns
returns c =
    let head = c.in_ok-head.ensures.cases in
    let body = c.in_ok-body.ensures.cases in
    stands _ _ _ _ head.1 head.2 c.body_of.ensures _ _ head.0 body.0 refl c.number.ensures c.read.ensures c.number-2.ensures body.1 body.2
