use Prim.Native.Nat.{ℕ, ◌≤◌, ◌<◌}
use mathlib.Core.Path.{◌≡◌}
use Rattle.std.specs.Prelude.{None}
use Rattle.rules.specs.Phases.{pairs_of, pairs_from}
use Rattle.phase3.specs.Views.{table_of, leaders_of, choice_of, Kept}
use Rattle.phase3.proofs.pass.Pass.first_two.Given as goal

abbrev pub invariant-loop-k : goal.invariant-loop-k
invariant-loop-k l = ((p : ℕ) → p < l.k → 1 ≤ p → pairs_of (table_of l.self) (leaders_of l.self) (choice_of l.self) l.i p ≡ None)
    × Kept l.self l.memory

abbrev pub invariant-loop-i : goal.invariant-loop-i
invariant-loop-i l = ((p : ℕ) → p < l.i → 1 ≤ p → pairs_from (table_of l.self) (leaders_of l.self) (choice_of l.self) p ≡ None)
    × Kept l.self l.memory
