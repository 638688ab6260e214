-- `rating::Treatment::effect` meets its contract: only the whole sum is divided.
use mathlib.Core.Path.{◌∙◌, ap}
use native.Mathlib.Omega.{arith}
use lib.Dec.{lit<}
use lib.IntN.{pos}
use lib.Signed.{quot_z}
use mir.Syntax.{w64}
use mir.Val.{to_z, of_z}
use mir.Facts.{to_z-of_z}
use Rattle.std.proofs.lemmas.Int.{ints, quot_fits}
use Rattle.base.proofs.Integers.{told, sum_z_fits}
use Rattle.rules.specs.Rating.{effect}
use Rattle.rating.proofs.Bounds.{credits_abs}
use Rattle.rating.proofs.Treatment.effect.Goals as goal

pub nonzero_div-result : goal.nonzero_div-result
nonzero_div-result c =
    let s = c.args.self.now in
    let n = s.ranged.in_range.distresses in (
      lit< tt,
      quot_fits w64 (to_z w64 (of_z w64 c.total_credits.result)) (pos 20_000)
          (rw (told w64 c.total_credits.type_inv c.total_credits.ensures)
          (sum_z_fits w64 _ 1_000_000_000 _ (λ k l h. credits_abs _ s.ranged.in_range _ _ k s.segment_in s.strategy_in (l, omega arith)) (omega arith)))
          (omega (arith, ints)),
    )

pub returns : goal.returns
unfolding effect
returns c = to_z-of_z (nonzero_div-result c).1 ∙ ap (λ z. quot_z z (pos 20_000)) (told w64 c.total_credits.type_inv c.total_credits.ensures)
