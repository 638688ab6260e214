-- `rating::Treatment::benefit` meets its contract.
use mathlib.Core.Path.{◌≡◌, refl, ◌∙◌, ap, ap₂}
use Prim.Native.Nat.{ℕ, zero, suc, ◌≤◌}
use native.Mathlib.Omega.{arith}
use lib.IntN.{pos, ◌*ℤ◌}
use mir.Syntax.{w64}
use mir.Val.{to_z, of_z}
use mir.Facts.{to_z-of_z, to_z_pos}
use Rattle.std.proofs.lemmas.Int.{fits_signed_from_abs}
use Rattle.base.proofs.Integers.{told}
use Rattle.rules.specs.District.{District}
use Rattle.rules.specs.Rating.{area, effect, benefit}
use Rattle.rating.proofs.Bounds.{area_le, benefit_abs}
use Rattle.rating.proofs.Treatment.benefit.Goals as goal
use Rattle.rating.proofs.Treatment.benefit.Goals.{After-area, After-effect}

small : (c : After-area) → c.area.result ≤ 1_999_800
small c = let s = c.args.self.now in rw c.area.ensures (area_le _ s.ranged.in_range _ s.segment_in)

-- of a strategy, which is not nothing
of-strategy : (d : District) (i j : ℕ) → 1 ≤ j → pos (area d i) *ℤ effect d i j ≡ benefit d i j
unfolding benefit
of-strategy d i zero h = elim h [ ]
of-strategy d i (suc j) h = refl

product : (c : After-effect) →
    let s = c.args.self.now in
    to_z w64 c.area.result *ℤ to_z w64 (of_z w64 c.effect.result) ≡ benefit s.ranged.district.now s.segment s.strategy
product c =
    ap₂ ◌*ℤ◌ (to_z_pos w64 (omega (arith, small (goal.at.After-effect c).After-area)) ∙ ap pos c.area.ensures) (told w64 c.effect.type_inv c.effect.ensures)
    ∙ of-strategy _ _ _ c.args.self.now.strategy_in.0

pub overflow_cast-result : goal.overflow_cast-result
overflow_cast-result c = fits_signed_from_abs w64 _ (omega (arith, small (goal.at.overflow_cast-result c).After-area))

pub overflow_mul-result : goal.overflow_mul-result
overflow_mul-result c =
    let s = c.args.self.now in
    rw (product (goal.at.overflow_mul-result c).After-effect) (fits_signed_from_abs w64 _ (omega (arith, benefit_abs _ s.ranged.in_range s.segment s.strategy s.segment_in s.strategy_in)))

pub returns : goal.returns
returns c = to_z-of_z (overflow_mul-result c) ∙ product (goal.at.returns c).After-effect
