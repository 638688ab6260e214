-- `phase3::trial::Trial::has_room` meets its contract.
use native.Mathlib.Omega.{arith}
use Rattle.tables.proofs.Moves.{testable, testable_part}
use Rattle.phase3.proofs.trial.Trial.has_room.Goals as goal

pub room_in-requires-clause-testable : goal.room_in-requires-clause-testable
room_in-requires-clause-testable c =
    let s = c.args.self.now.look.now.setting in
    testable_part _ _ (testable s.running s.budgets.places) (omega arith)
