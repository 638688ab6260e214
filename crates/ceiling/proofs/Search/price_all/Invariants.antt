use mathlib.Core.Path.{◌≡◌}
use Rattle.rules.specs.Ceiling.{priced_all}
use Rattle.ceiling.specs.Views.{priced_in}
use Rattle.ceiling.proofs.Search.price_all.Given as goal

abbrev pub invariant-loop-r : goal.invariant-loop-r
invariant-loop-r l = (l.self.table ≡ l.initial.self.table) × (l.self.prices ≡ priced_all (priced_in l.initial.self.table) l.step l.r l.initial.self.prices)
