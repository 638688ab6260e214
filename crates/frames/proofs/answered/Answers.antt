-- `frames::answered` meets its contract.
use Rattle.std.proofs.Common.{rules}
use Rattle.base.proofs.Text.{put_taken}
use Rattle.frames.proofs.Turns.{start, step, ended, failed, run_out}
use Rattle.frames.proofs.answered.Goals as goal

pub loop-init : goal.loop-init
loop-init g c = (search rules, λ print h. start print _ _)

pub returns-in-Ok-None : goal.returns-in-Ok-None
returns-in-Ok-None g c print h = ended print _ _ _ _ _ (c.loop.invariant.1 print h) (rw (c.in-Ok-None.field-0-is, c.loop.invariant.0) at c.in-Ok-None.ensures.next)

pub returns-in-Err : goal.returns-in-Err
returns-in-Err g c print h = failed print _ _ _ _ _ _ (c.loop.invariant.1 print h) (rw c.loop.invariant.0 at c.in-Err.ensures.failed)

pub loop-preserved : goal.loop-preserved
loop-preserved g c =
    (search rules, λ print h. step print _ _ _ _ _ (c.loop.invariant.1 print h) _ _ c.in-Ok-Some.frame.now (rw (c.in-Ok-Some.field-0-is, c.loop.invariant.0) at c.in-Ok-Some.ensures.next) (rw (put_taken (h _ _ _ _ (search rules) c.answer-length.ensures)) at c.in_ok-write_all.ensures.bytes))

pub returns : goal.returns
returns g c print h = run_out print _ _ _ _ _ (c.loop.invariant.1 print h) c.loop-test.false
