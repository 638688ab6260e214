-- `rating::Treatment::gain` meets its contract. What is left up to the greatest rating is not below 0.
use Prim.Native.Nat.{◌-◌, ◌≤◌}
use mathlib.Core.Path.{◌≡◌, ◌∙◌, sym, ap, ap₂}
use native.Mathlib.Omega.{arith}
use lib.IntN.{pos, neg_ℤ, ◌-ℤ◌, +ℤ_idl}
use mir.Syntax.{w64}
use mir.Val.{to_z, of_z}
use mir.Facts.{to_z_pos, to_z-of_z}
use Rattle.std.specs.Int.{int_min}
use Rattle.std.proofs.lemmas.Int.{ints, fits_signed_from_abs}
use Rattle.base.specs.Over.{min_z, max_z}
use Rattle.base.proofs.Integers.{abs_neg, told, pos_minus}
use Rattle.rules.specs.District.{gain_of, greatest_of, rating_of}
use Rattle.rules.specs.Rating.{capped_gain, gain}
use Rattle.rating.proofs.Least.{least, greatest}
use Rattle.rating.proofs.Places.{rating_is}
use Rattle.rating.proofs.Treatment.gain.Goals as goal
use Rattle.rating.proofs.Treatment.gain.Goals.{After-own_gain-own, After-greatest_at}

small : (c : After-greatest_at) → c.greatest_at.result ≤ 50
unfolding greatest_of
small c =
    rw c.greatest_at.ensures (c.args.self.now.ranged.in_range.greatest _ c.requires.0 c.requires.1)

own : (c : After-own_gain-own) → let s = c.args.self.now in to_z w64 (of_z w64 c.own_gain-own.result) ≡ gain_of s.ranged.district.now s.strategy c.args.k
own c = told w64 c.own_gain-own.type_inv c.own_gain-own.ensures

pub overflow_sub-left : goal.overflow_sub-left
unfolding greatest_of
overflow_sub-left c =
    let s = c.args.self.now in
    rw ((rating_is c.args.self.now.ranged.district.now c.args.self.now.segment c.args.k c.segment_at-current.ensures), c.greatest_at.ensures) (s.ranged.in_range.rating _ _ s.segment_in.0 s.segment_in.1 c.requires.0 c.requires.1)

left : (c : After-greatest_at) →
    let s = c.args.self.now in
    to_z w64 (c.greatest_at.result - c.segment_at-current.result) ≡ pos (greatest_of s.ranged.district.now c.args.k) -ℤ pos (rating_of s.ranged.district.now s.segment c.args.k)
unfolding greatest_of
left c =
    to_z_pos w64 (omega (arith, small c))
    ∙ sym (pos_minus _ _ (overflow_sub-left c))
    ∙ ap₂ (λ a b. pos a -ℤ pos b) c.greatest_at.ensures (rating_is c.args.self.now.ranged.district.now c.args.self.now.segment c.args.k c.segment_at-current.ensures)

current-small : (c : After-greatest_at) → c.segment_at-current.result ≤ 50
current-small c = omega (arith, small c, overflow_sub-left c)

minus : (c : After-greatest_at) → pos 0 -ℤ to_z w64 c.segment_at-current.result ≡ neg_ℤ (pos c.segment_at-current.result)
minus c = +ℤ_idl _ ∙ ap neg_ℤ (to_z_pos w64 {n = c.segment_at-current.result} (omega (arith, current-small c)))

pub overflow_cast-left : goal.overflow_cast-left
overflow_cast-left c = fits_signed_from_abs w64 _ (omega (arith, small (goal.at.overflow_cast-left c).After-greatest_at))

pub overflow_cast-lowest : goal.overflow_cast-lowest
overflow_cast-lowest c = fits_signed_from_abs w64 _ (omega (arith, current-small (goal.at.overflow_cast-lowest c).After-greatest_at))

pub overflow_sub-lowest : goal.overflow_sub-lowest
overflow_sub-lowest c =
    let b = (goal.at.overflow_sub-lowest c).After-greatest_at in
    rw (minus b) (fits_signed_from_abs w64 _ (rw (abs_neg (pos c.segment_at-current.result)) (omega (arith, current-small b))))

lowest : (c : After-greatest_at) →
    let s = c.args.self.now in
    to_z w64 (of_z w64 (pos 0 -ℤ to_z w64 c.segment_at-current.result)) ≡ neg_ℤ (pos (rating_of s.ranged.district.now s.segment c.args.k))
lowest c =
    to_z-of_z {w = w64} (rw (minus c) (fits_signed_from_abs w64 _ (rw (abs_neg (pos c.segment_at-current.result)) (omega (arith, current-small c)))))
    ∙ minus c
    ∙ ap (λ v. neg_ℤ (pos v)) (rating_is c.args.self.now.ranged.district.now c.args.self.now.segment c.args.k c.segment_at-current.ensures)

-- the loss of all is no more than what is left
pub clamp-requires : goal.clamp-requires
clamp-requires c =
    let b = (goal.at.clamp-requires c).After-greatest_at in
    rw (lowest b, to_z_pos w64 {n = c.greatest_at.result - c.segment_at-current.result} (omega (arith, small b))) (omega (arith, ints))

capped : (c : After-greatest_at) →
    let s = c.args.self.now in
    int_min (to_z w64 (of_z w64 c.own_gain-own.result)) (to_z w64 (c.greatest_at.result - c.segment_at-current.result)) ≡ capped_gain s.ranged.district.now s.segment s.strategy c.args.k
unfolding capped_gain
capped c = least _ _ ∙ ap₂ min_z (own (goal.at.After-greatest_at c).After-own_gain-own) (left c)

pub returns : goal.returns
unfolding gain
returns c =
    let b = (goal.at.returns c).After-greatest_at in
    told w64 c.clamp.type_inv (c.clamp.ensures.value ∙ greatest _ _ ∙ ap₂ max_z (lowest b) (capped b))
