use mathlib.Core.Path.{◌≡◌}
use mathlib.Core.List.{◌++◌}
use Prim.Native.Nat.{◌*◌}
use lib.ListN.{drop}
use Rattle.base.specs.Over.{listed_from}
use Rattle.rules.specs.District.{most_resources}
use Rattle.fill.specs.Lists.{usage_entry}
use Rattle.fill.proofs.fill_uses.Given as goal

abbrev pub invariant-loop-n : goal.invariant-loop-n
invariant-loop-n l = l.table ≡ listed_from (most_resources * l.n) 0 (usage_entry l.d.district.now) ++ drop (most_resources * l.n) l.initial.table
