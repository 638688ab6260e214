-- `phase3::trial::Trial::refused` meets its contract.
use native.Mathlib.Omega.{arith}
use Rattle.phase3.proofs.Remembered.{refusal_short, all_fit}
use Rattle.phase3.proofs.trial.Trial.refused.Goals as goal

pub returns-in_default-clause-fits : goal.returns-in_default-clause-fits
returns-in_default-clause-fits c = λ _. all_fit c.args.self.now.look.now.setting _ _ c.in_default.ensures

pub returns-clause-refusal : goal.returns-clause-refusal
returns-clause-refusal c =
    let e = c.in-Some.ensures in
    rw c.note.ensures (refusal_short c.args.self.now.look.now.setting _ _ _ _ e.0 e.1 (omega arith) e.2)
