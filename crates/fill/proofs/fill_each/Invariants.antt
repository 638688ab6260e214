use mathlib.Core.Path.{◌≡◌}
use mathlib.Core.List.{◌++◌}
use Prim.Native.Nat.{ℕ, ◌<◌}
use lib.ListN.{length, drop}
use Rattle.base.specs.Over.{listed_from}
use Rattle.fill.proofs.fill_each.Given as goal

abbrev pub invariant-loop-n : goal.invariant-loop-n
invariant-loop-n g l = (f : ℕ → _) → ((n : ℕ) (v : _) → n < length l.initial.list → goal.F-post g l.entry n v → v ≡ f n) → l.list ≡ listed_from l.n 0 f ++ drop l.n l.initial.list
