use mathlib.Core.Path.{◌≡◌}
use mathlib.Core.Bool.{false}
use Rattle.rules.specs.Phases.{pruned}
use Rattle.tables.specs.Arrays.{leader_in}
use Rattle.phase1.proofs.prune.Given as goal

abbrev pub invariant-loop-i : goal.invariant-loop-i
invariant-loop-i l = (l.choice ≡ pruned (leader_in l.leaders.entries.now) l.i l.initial.choice) × (l.lost ≡ false → l.choice ≡ l.initial.choice)
