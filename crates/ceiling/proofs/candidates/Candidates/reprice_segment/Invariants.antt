use Prim.Native.Nat.{◌+◌}
use Rattle.tables.specs.Arrays.{entry}
use Rattle.ceiling.specs.Views.{repriced, CostsAt}
use Rattle.ceiling.proofs.candidates.Candidates.reprice_segment.Given as goal

abbrev pub invariant-loop-j : goal.invariant-loop-j
invariant-loop-j l = CostsAt l.self (repriced l.prices l.new) l.prices (entry l.i (l.j + 1)) l.costs
