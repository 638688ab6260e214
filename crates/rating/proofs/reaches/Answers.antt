-- `rating::reaches` meets its contract, by the test on what is required.
use mathlib.Core.Path.{ap₂}
use Prim.Native.Nat.{◌*◌}
use native.Mathlib.Omega.{arith}
use borrow.Author.Tests.{eq-eqb, ne_eqb}
use lib.Signed.{le_z}
use mir.Syntax.{w64}
use mir.Facts.{to_z-of_z, to_z_pos}
use Rattle.rules.specs.Rating.{reaches}
use Rattle.rating.proofs.reaches.Goals as goal

pub returns-then-required-eq0 : goal.returns-then-required-eq0
unfolding reaches
returns-then-required-eq0 c = rw (eq-eqb _ _ c.if-required-eq0.true)

pub returns-else-required-eq0 : goal.returns-else-required-eq0
unfolding reaches
returns-else-required-eq0 c = rw (ne_eqb _ _ c.if-required-eq0.false) (ap₂ le_z (to_z_pos w64 {n = 1_000_000 * c.args.required} (omega arith)) (to_z-of_z c.ranges.z))
