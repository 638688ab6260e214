-- `rating::Treatment::rating` meets its contract.
use mathlib.Core.Path.{◌≡◌, ◌∙◌, ap, ap₂}
use Prim.Native.Nat.{◌*◌, ◌≤◌}
use native.Mathlib.Omega.{arith}
use lib.IntN.{pos, ◌+ℤ◌, ◌*ℤ◌}
use mir.Syntax.{w64}
use mir.Val.{to_z, of_z}
use mir.Facts.{to_z-of_z, to_z_pos}
use Rattle.std.proofs.lemmas.Int.{fits_signed_from_abs}
use Rattle.rules.specs.Rating.{improvement, rating}
use Rattle.laws.proofs.Survival.{survival_le}
use Rattle.rating.proofs.Bounds.{current_le, improvement_abs, rating_abs}
use Rattle.rating.proofs.Places.{rating_is}
use Rattle.rating.proofs.Treatment.rating.Goals as goal
use Rattle.rating.proofs.Treatment.rating.Goals.{After-segment_at-current, After-survival}

current-le : (c : After-segment_at-current) → c.segment_at-current.result ≤ 50
current-le c =
    let s = c.args.self.now in
    rw (rating_is c.args.self.now.ranged.district.now c.args.self.now.segment c.args.k c.segment_at-current.ensures) (current_le _ s.ranged.in_range _ _ s.segment_in c.requires.0)

left-le : (c : After-survival) → c.survival.result ≤ 1_000_000
left-le c = rw c.survival.ensures (survival_le _ _ _ _ _)

product : (c : After-survival) →
    let s = c.args.self.now in
    to_z w64 (of_z w64 c.args.g) *ℤ to_z w64 c.survival.result ≡ improvement s.ranged.district.now s.segment s.strategy c.args.k c.args.t
unfolding improvement
product c =
    ap₂ ◌*ℤ◌ (to_z-of_z c.ranges.g ∙ c.requires.2) (to_z_pos w64 (omega (arith, left-le c)) ∙ ap pos c.survival.ensures)

pub overflow_mul-result-2 : goal.overflow_mul-result-2
overflow_mul-result-2 c =
    let s = c.args.self.now in
    rw (product (goal.at.overflow_mul-result-2 c).After-survival) (fits_signed_from_abs w64 _ (omega (arith, improvement_abs _ s.ranged.in_range s.segment s.strategy c.args.k c.args.t s.segment_in s.strategy_in c.requires.0)))

total : (c : After-survival) →
    let s = c.args.self.now in
    to_z w64 (1_000_000 * c.segment_at-current.result) +ℤ to_z w64 (of_z w64 (to_z w64 (of_z w64 c.args.g) *ℤ to_z w64 c.survival.result)) ≡ rating s.ranged.district.now s.segment s.strategy c.args.k c.args.t
unfolding rating
total c =
    ap₂ ◌+ℤ◌
    (to_z_pos w64 (omega (arith, current-le (goal.at.After-survival c).After-segment_at-current)) ∙ ap (λ v. pos (1_000_000 * v)) (rating_is c.args.self.now.ranged.district.now c.args.self.now.segment c.args.k c.segment_at-current.ensures))
    (to_z-of_z (overflow_mul-result-2 c) ∙ product c)

pub overflow_mul-result : goal.overflow_mul-result
overflow_mul-result c = omega (arith, current-le (goal.at.overflow_mul-result c).After-segment_at-current)

pub overflow_cast-result : goal.overflow_cast-result
overflow_cast-result c = fits_signed_from_abs w64 _ (omega (arith, current-le (goal.at.overflow_cast-result c).After-segment_at-current))

pub overflow_cast-result-2 : goal.overflow_cast-result-2
overflow_cast-result-2 c = fits_signed_from_abs w64 _ (omega (arith, left-le (goal.at.overflow_cast-result-2 c).After-survival))

pub overflow_add-result : goal.overflow_add-result
overflow_add-result c =
    let s = c.args.self.now in
    rw (total (goal.at.overflow_add-result c).After-survival) (fits_signed_from_abs w64 _ (omega (arith, rating_abs _ s.ranged.in_range s.segment s.strategy c.args.k c.args.t s.segment_in s.strategy_in c.requires.0)))

pub returns : goal.returns
returns c = to_z-of_z (overflow_add-result c) ∙ total (goal.at.returns c).After-survival
