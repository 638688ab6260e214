-- `rating::Treatment::credits` meets its contract.
use mathlib.Core.Path.{◌≡◌, refl, ◌∙◌, ap, ap₂}
use Prim.Native.Nat.{◌≤◌}
use native.Mathlib.Omega.{arith}
use lib.IntN.{pos, ◌*ℤ◌}
use mir.Syntax.{w64}
use mir.Val.{to_z, of_z}
use mir.Facts.{to_z-of_z, to_z_pos}
use Rattle.std.proofs.lemmas.Int.{fits_signed_from_abs}
use Rattle.base.proofs.Integers.{told, sum_z_times}
use Rattle.base.proofs.Sums.{sum_bound}
use Rattle.rules.specs.District.{years_of}
use Rattle.rules.specs.Rating.{gain, both_ends, credit, credits}
use Rattle.rating.proofs.Bounds.{both_ends_le, credits_abs}
use Rattle.rating.proofs.Treatment.credits.Goals as goal
use Rattle.rating.proofs.Treatment.credits.Goals.{After-survivals}

total-le : (c : After-survivals) → c.survivals.result ≤ 20_000_000
total-le c =
    let s = c.args.self.now in
    let y = s.ranged.in_range.years in
    rw c.survivals.ensures (omega (arith, sum_bound (years_of s.ranged.district.now) 2_000_000 _ (λ t l h. both_ends_le s.ranged.district.now s.segment s.strategy c.args.k t)))

product : (c : After-survivals) →
    let s = c.args.self.now in
    to_z w64 (of_z w64 c.gain.result) *ℤ to_z w64 c.survivals.result ≡ credits s.ranged.district.now s.segment s.strategy c.args.k
unfolding credits credit
product c =
    let s = c.args.self.now in
    let k = c.args.k in
    ap₂ ◌*ℤ◌ (told w64 c.gain.type_inv c.gain.ensures) (to_z_pos w64 (omega (arith, total-le c)) ∙ ap pos c.survivals.ensures)
    ∙ sum_z_times _ (gain s.ranged.district.now s.segment s.strategy k) (both_ends s.ranged.district.now s.segment s.strategy k) (credit s.ranged.district.now s.segment s.strategy k) (λ t. refl)

pub overflow_cast-result : goal.overflow_cast-result
overflow_cast-result c = fits_signed_from_abs w64 _ (omega (arith, total-le (goal.at.overflow_cast-result c).After-survivals))

pub overflow_mul-result : goal.overflow_mul-result
overflow_mul-result c =
    let s = c.args.self.now in
    rw (product (goal.at.overflow_mul-result c).After-survivals) (fits_signed_from_abs w64 _ (omega (arith, credits_abs _ s.ranged.in_range s.segment s.strategy c.args.k s.segment_in s.strategy_in c.requires)))

pub returns : goal.returns
returns c = to_z-of_z (overflow_mul-result c) ∙ product (goal.at.returns c).After-survivals
