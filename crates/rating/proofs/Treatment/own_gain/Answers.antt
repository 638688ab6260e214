-- `rating::Treatment::own_gain` meets its contract: a byte below 128 stands for itself, another for itself less 256.
use Prim.Native.Nat.{◌≤◌}
use mathlib.Core.Path.{◌∙◌}
use native.Mathlib.Omega.{arith}
use borrow.Author.Tests.{lt-ltb, le-ltb}
use lib.IntN.{pos, negsuc}
use mir.Syntax.{w64}
use mir.Facts.{to_z_pos, to_z-of_z}
use Rattle.std.proofs.lemmas.Int.{fits_signed_from_abs}
use Rattle.base.proofs.Integers.{abs_add}
use Rattle.rules.specs.District.{gain_of}
use Rattle.rating.proofs.Bounds.{byte_le}
use Rattle.rating.proofs.Places.{gain_is}
use Rattle.rating.proofs.Treatment.own_gain.Goals as goal
use Rattle.rating.proofs.Treatment.own_gain.Goals.{Else-byte-lt128}

small : (c : Else-byte-lt128) → c.strategy_at-byte.result ≤ 306
small c =
    let s = c.args.self.now in
    rw (gain_is c.args.self.now.ranged.district.now c.args.self.now.strategy c.args.k c.strategy_at-byte.ensures) (byte_le _ s.ranged.in_range _ _ s.strategy_in c.requires)

pub returns-then-byte-lt128 : goal.returns-then-byte-lt128
unfolding gain_of
returns-then-byte-lt128 c = to_z_pos w64 {n = c.strategy_at-byte.result} (omega arith) ∙ rw (← gain_is c.args.self.now.ranged.district.now c.args.self.now.strategy c.args.k c.strategy_at-byte.ensures, lt-ltb _ _ c.if-byte-lt128.true)

pub overflow_cast-result-else-byte-lt128 : goal.overflow_cast-result-else-byte-lt128
overflow_cast-result-else-byte-lt128 c = fits_signed_from_abs w64 _ (omega (arith, small c))

pub overflow_sub-result : goal.overflow_sub-result
overflow_sub-result c =
    let b = c.strategy_at-byte.result in
    rw (to_z_pos w64 {n = b} (omega (arith, small c))) (fits_signed_from_abs w64 _ (omega (arith, small c, abs_add (pos b) (negsuc 255))))

pub returns-else-byte-lt128 : goal.returns-else-byte-lt128
unfolding gain_of
returns-else-byte-lt128 c =
    to_z-of_z (overflow_sub-result c)
    ∙ rw (to_z_pos w64 {n = c.strategy_at-byte.result} (omega (arith, small c)), ← gain_is c.args.self.now.ranged.district.now c.args.self.now.strategy c.args.k c.strategy_at-byte.ensures, le-ltb _ _ c.if-byte-lt128.false)
