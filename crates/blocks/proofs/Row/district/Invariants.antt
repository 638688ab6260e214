use mathlib.Core.Path.{◌≡◌}
use Prim.Native.Nat.{◌-◌}
use Rattle.rules.specs.Blocks.{barred_outside}
use Rattle.blocks.proofs.Row.district.Given as goal

-- the segments passed are barred outside the block
abbrev pub invariant-loop-i : goal.invariant-loop-i
invariant-loop-i l = l.district ≡ barred_outside l.self.choice.now l.self.ranged.district.now l.b (l.i - 1)
