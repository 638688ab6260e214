-- `script::run`: what is answered and held stands for what came.
use lib.ListN.{length}
use Rattle.desk.specs.Kept.{reply}
use Rattle.script.proofs.Turns.{Stands}
use Rattle.script.proofs.run.Given as goal

abbrev pub invariant-loop-call : goal.invariant-loop-call
invariant-loop-call l = Stands l.script l.rest (reply l.ran.answer l.ran.desk) l.ran.office

abbrev pub decreases-loop-call : goal.decreases-loop-call
decreases-loop-call l = length l.rest
