-- `queues::Queue::try_push` meets its contract.
use Rattle.std.proofs.Common.{ap, length, arith}
use lib.ListN.{length-take}
use Rattle.queues.proofs.Places.{joined}
use Rattle.queues.proofs.Queue.try_push.Goals as goal

pub returns-clause-pushed : goal.returns-clause-pushed
returns-clause-pushed c =
    let x = c.args.self.now in
    let e = ap length c.as_slice-count.ensures in
    joined x.places x.count _ c.args.w e (omega (arith, e, length-take x.count x.places))
