use Prim.Native.Nat.{◌*◌}
use Rattle.tables.specs.Arrays.{columns}
use Rattle.ceiling.specs.Views.{repriced, CostsAt}
use Rattle.ceiling.proofs.candidates.Candidates.reprice.Given as goal

abbrev pub invariant-loop-i : goal.invariant-loop-i
invariant-loop-i l = CostsAt l.self (repriced l.prices l.new) l.prices (columns * l.i) l.costs
