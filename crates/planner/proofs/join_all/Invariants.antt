use mathlib.Core.Path.{◌≡◌}
use Rattle.base.specs.Over.{sum}
use Rattle.rules.specs.Blocks.{block_steps, joined}
use Rattle.planner.proofs.join_all.Given as goal

-- the first b blocks are joined
abbrev pub invariant-loop-b : goal.invariant-loop-b
invariant-loop-b l =
    let x = l.blocks.choice.now in
    let d = l.blocks.ranged.district.now in
    (l.joined.strategies ≡ joined x d l.b) × (l.joined.steps ≡ sum l.b (block_steps x d))
