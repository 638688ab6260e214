use mathlib.Core.Path.{◌≡◌}
use Prim.Native.Nat.{◌-◌}
use Rattle.rules.specs.Blocks.{with_parts}
use Rattle.blocks.proofs.Row.with_parts.Given as goal

-- the limits passed are the parts
abbrev pub invariant-loop-r : goal.invariant-loop-r
invariant-loop-r l = l.district ≡ with_parts l.self.choice.now l.self.ranged.district.now l.b (l.r - 1)
