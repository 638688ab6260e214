use Rattle.ceiling.specs.Views.{priced_in, repriced}
use Rattle.ceiling.proofs.Costs.{Summed}
use Rattle.ceiling.proofs.Search.trial.Given as goal

abbrev pub invariant-loop-i : goal.invariant-loop-i
invariant-loop-i l = Summed (priced_in l.self.table) (repriced l.self.prices l.new) l.i l.total
