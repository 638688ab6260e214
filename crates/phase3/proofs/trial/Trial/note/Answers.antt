-- `phase3::trial::Trial::note` meets its contract: no sum wraps.
use native.Mathlib.Omega.{arith}
use Rattle.phase3.proofs.Remembered.{given_le}
use Rattle.phase3.proofs.trial.Trial.note.Goals as goal

pub overflow_sub-excess-3 : goal.overflow_sub-excess-3
overflow_sub-excess-3 c = omega (arith, given_le c.args.self.now.look.now.setting c.args.r (omega arith) (omega arith))
