-- `phase3::memory::Memory::look` meets its contract.
use native.Mathlib.Omega.{arith}
use Rattle.phase3.proofs.Rows.{remembers_set}
use Rattle.phase3.proofs.memory.Memory.look.Goals as goal

pub returns-clause-memory : goal.returns-clause-memory
returns-clause-memory c =
    let pair = c.args.pair.now in
    rw c.place-n.ensures
    (remembers_set c.requires pair.pass.now.planning.now.running.bounded.segments pair.i pair.k (omega arith) (omega arith) (omega arith) _ (rw c.look.ensures at c.first_change.ensures.holds))
