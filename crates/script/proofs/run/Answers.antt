-- `script::run` meets its contract.
use Rattle.script.proofs.Turns.{starts, shorter, turned, ends}
use Rattle.script.proofs.run.Goals as goal

pub loop-call-init : goal.loop-call-init
loop-call-init c = starts _ _ c.fresh.ensures.start

pub loop-call-smaller : goal.loop-call-smaller
loop-call-smaller c = shorter _ _ _ c.in-Some.ensures

pub loop-call-preserved : goal.loop-call-preserved
loop-call-preserved c = turned _ _ _ _ _ _ _ _ c.in-Some.ensures c.make-ran.ensures c.named.ensures c.loop-call.invariant

pub returns : goal.returns
returns c =
    let x = ends _ _ _ _ c.in_default.ensures c.loop-call.invariant in
    record { after = x.after; last = x.last; named = x.named; claim = x.claim }
