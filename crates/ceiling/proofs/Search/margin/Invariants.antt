use mathlib.Core.Path.{◌≡◌}
use Rattle.base.specs.Over.{most}
use Rattle.rules.specs.Ceiling.{net}
use Rattle.ceiling.specs.Views.{priced_in, repriced}
use Rattle.ceiling.proofs.Search.margin.Given as goal

abbrev pub invariant-loop-j : goal.invariant-loop-j
invariant-loop-j l = l.best ≡ most l.j (net (priced_in l.self.table) (repriced l.self.prices l.new) l.i)
