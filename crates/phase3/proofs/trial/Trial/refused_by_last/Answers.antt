-- `phase3::trial::Trial::refused_by_last` meets its contract.
use native.Mathlib.Omega.{arith}
use Rattle.phase3.proofs.Remembered.{refusal_short}
use Rattle.phase3.proofs.trial.Trial.refused_by_last.Goals as goal

pub returns : goal.returns
returns c =
    let e = c.in-Some.ensures in
    rw c.note.ensures (refusal_short c.args.self.now.look.now.setting _ _ _ _ e.0 e.1 (omega arith) e.2)
