use Prim.Native.Nat.{◌-◌, ◌^◌}
use mathlib.Core.Path.{◌≡◌}
use Rattle.tables.specs.Views.{table_in, leaders_in}
use Rattle.phase3.specs.Memory.{Remembers}
use Rattle.phase3.proofs.ChangeSearch.{Under}
use Rattle.phase3.proofs.improve.Given as goal

abbrev pub invariant-loop-next : goal.invariant-loop-next
invariant-loop-next l =
    let p = l.initial.planning in
    (l.planning.t ≡ p.t)
    × Under p.t.size (leaders_in p.t) p.t.benefits.entries.now p.t.uses.entries.now p.t.limits.entries.now p.draft.choice l.planning.draft.choice l.planning.draft.sums l.changes
    × Remembers (table_in p.t) (leaders_in p.t) l.memory.rows

abbrev pub decreases-loop-next : goal.decreases-loop-next
decreases-loop-next l = 2 ^ 46 - l.changes
