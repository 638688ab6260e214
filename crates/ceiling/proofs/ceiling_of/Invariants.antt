use Prim.Native.Nat.{◌-◌}
use mathlib.Core.Path.{◌≡◌}
use Rattle.rules.specs.Ceiling.{prices_after}
use Rattle.ceiling.specs.Views.{priced_in}
use Rattle.ceiling.proofs.ceiling_of.Given as goal

abbrev pub invariant-loop-k : goal.invariant-loop-k
invariant-loop-k l = (l.search.table ≡ l.initial.search.table) × (l.search.prices ≡ prices_after (priced_in l.initial.search.table) (41 - l.k))
