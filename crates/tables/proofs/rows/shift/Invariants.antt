use Prim.Native.Nat.{ℕ, ◌+◌, ◌≤◌, ◌<◌}
use mathlib.Core.Path.{◌≡◌}
use lib.ListN.{get_or, length}
use Rattle.tables.proofs.rows.shift.Given as goal

-- the sums passed have moved, and the others are as they were
abbrev pub invariant-loop-k : goal.invariant-loop-k
invariant-loop-k l = (length l.sums ≡ length l.initial.sums)
    × ((p : ℕ) → p < l.k → get_or l.sums p 0 + get_or l.less p 0 ≡ get_or l.initial.sums p 0 + get_or l.more p 0)
    × ((p : ℕ) → l.k ≤ p → get_or l.sums p 0 ≡ get_or l.initial.sums p 0)
