-- `rating::Treatment::survivals` meets its contract: what is left at the end of a year is what is left at the start of the next.
use mathlib.Core.Path.{◌≡◌, refl, ◌∙◌, ap, ap₂}
use Prim.Native.Nat.{ℕ, ◌+◌, ◌-◌, ◌*◌, ◌≤◌}
use native.Mathlib.Omega.{arith}
use Rattle.base.specs.Over.{sum}
use Rattle.base.proofs.Sums.{sum_none, sum_bound, sum_end}
use Rattle.rules.specs.District.{District}
use Rattle.rules.specs.Rating.{survival, both_ends}
use Rattle.rating.proofs.Bounds.{both_ends_le}
use Rattle.rating.proofs.Loops.{sum_passed}
use Rattle.rating.proofs.Treatment.survivals.Goals as goal
use Rattle.rating.proofs.Treatment.survivals.Goals.{After-survival-end}

whole : (d : District) (i j k : ℕ) → ◌≡◌ {A = ℕ} 1_000_000 (survival d i j k 0)
unfolding survival
whole d i j k = refl

ends : (c : After-survival-end) →
    let l = c.loop-t in
    let s = c.args.self.now in
    l.start + c.survival-end.result ≡ both_ends s.ranged.district.now s.segment s.strategy c.args.k l.t
unfolding both_ends
ends c = ap₂ ◌+◌ c.loop-t.invariant.1 c.survival-end.ensures

next : (c : After-survival-end) →
    let l = c.loop-t in
    let s = c.args.self.now in
    l.total + (l.start + c.survival-end.result) ≡ sum (l.t + 1 - 1) (both_ends s.ranged.district.now s.segment s.strategy c.args.k)
next c = ap (λ x. c.loop-t.total + x) (ends c) ∙ sum_passed _ _ c.loop-t.auto.t c.loop-t.invariant.0

next-le : (c : After-survival-end) →
    let l = c.loop-t in
    l.total + (l.start + c.survival-end.result) ≤ (l.t + 1 - 1) * 2_000_000
next-le c = rw (next c) (sum_bound _ 2_000_000 _ (λ t l h. both_ends_le _ _ _ _ t))

pub loop-t-init : goal.loop-t-init
loop-t-init c = (sum_none _, whole _ _ _ _)

pub survival-end-requires : goal.survival-end-requires
survival-end-requires c =
    let y = c.args.self.now.ranged.in_range.years in
    (c.requires, (omega arith, omega arith))

pub overflow_add-total : goal.overflow_add-total
overflow_add-total c = let y = c.args.self.now.ranged.in_range.years in omega (arith, next-le c)

pub overflow_add-total-in-loop-t : goal.overflow_add-total-in-loop-t
overflow_add-total-in-loop-t c = let y = c.args.self.now.ranged.in_range.years in omega (arith, next-le c)

pub loop-t-preserved : goal.loop-t-preserved
loop-t-preserved c =
    let here : c.loop-t.t + 1 - 1 ≡ c.loop-t.t = omega arith in
    (next (goal.at.loop-t-preserved c).After-survival-end, rw here c.survival-end.ensures)

pub returns : goal.returns
returns c = let l = c.loop-t in sum_end _ _ _ l.invariant.0 (omega (arith, l.auto.t-end (omega arith))) (omega arith)
