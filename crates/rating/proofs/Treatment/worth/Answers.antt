-- `rating::Treatment::worth` meets its contract.
use mathlib.Core.Path.{◌≡◌, sym, ◌∙◌, ap}
use mathlib.Core.Bool.{true, false, and-false}
use Prim.Native.Nat.{ℕ}
use native.Mathlib.Omega.{arith}
use lib.IntN.{pos, nat_abs}
use lib.Signed.{le_z}
use mir.Syntax.{w64}
use mir.Val.{to_z, of_z}
use Rattle.base.specs.Choice.{pick}
use Rattle.base.proofs.Integers.{told, above_zero, not_above_zero}
use Rattle.rules.specs.District.{District, barred_in}
use Rattle.rules.specs.Rating.{permitted, benefit, fits_alone, candidate}
use Rattle.rating.proofs.Bounds.{benefit_abs}
use Rattle.rating.proofs.Treatment.worth.Goals as goal
use Rattle.rating.proofs.Treatment.worth.Goals.{After-benefit-b, then-barred-via-then-barred, then-barred-via-else-barred+then-not-fits_alone, then-b-le0-via-then-b-le0, then-b-le0-via-else-b-le0+then-not-permitted}

module _ (d : District) (i j : ℕ) where
  worth_of : ℕ
  worth_of = pick (candidate d i j) (nat_abs (benefit d i j)) 0

  of-barred : barred_in d i j ≡ true → 0 ≡ worth_of
  unfolding permitted candidate worth_of
  of-barred e = rw e

  unfit : fits_alone d i j ≡ false → 0 ≡ worth_of
  unfolding candidate worth_of
  unfit e = simp (e, and-false)

  no_benefit : le_z (benefit d i j) (pos 0) ≡ true → 0 ≡ worth_of
  unfolding candidate worth_of
  no_benefit l = simp (not_above_zero (benefit d i j) l, and-false)

  not_permitted : permitted d i j ≡ false → 0 ≡ worth_of
  unfolding candidate worth_of
  not_permitted e = rw e

  of-candidate : fits_alone d i j ≡ true → le_z (benefit d i j) (pos 0) ≡ false → permitted d i j ≡ true → nat_abs (benefit d i j) ≡ worth_of
  unfolding candidate worth_of
  of-candidate e l p = simp (e, p, (above_zero (benefit d i j) l).0)

-- what the local b holds
held : (c : After-benefit-b) → let s = c.args.self.now in to_z w64 (of_z w64 c.benefit-b.result) ≡ benefit s.ranged.district.now s.segment s.strategy
held c = told w64 c.benefit-b.type_inv c.benefit-b.ensures

pub returns-then-barred : goal.returns-then-barred
unfolding worth_of
returns-then-barred c =
    elim c.then-barred.branch [
      | then-barred-via-then-barred w ↦ of-barred _ _ _ (sym c.barred.ensures ∙ w.if-barred.true)
      | then-barred-via-else-barred+then-not-fits_alone w ↦ unfit _ _ _ (sym w.fits_alone.ensures ∙ w.if-not-fits_alone.true)
    ]

pub returns-then-b-le0 : goal.returns-then-b-le0
unfolding worth_of
returns-then-b-le0 c =
    elim c.then-b-le0.branch [
      | then-b-le0-via-then-b-le0 w ↦ no_benefit _ _ _ (rw (held (goal.at.returns-then-b-le0 c).After-benefit-b) at w.if-b-le0.true)
      | then-b-le0-via-else-b-le0+then-not-permitted w ↦ not_permitted _ _ _ (sym w.permitted.ensures ∙ w.if-not-permitted.true)
    ]

pub overflow_cast-result : goal.overflow_cast-result
overflow_cast-result c =
    let s = c.args.self.now in
    rw (held (goal.at.overflow_cast-result c).After-benefit-b)
    ((above_zero (benefit s.ranged.district.now s.segment s.strategy) (rw (held (goal.at.overflow_cast-result c).After-benefit-b) at c.if-b-le0.false)).1, omega (arith, benefit_abs _ s.ranged.in_range s.segment s.strategy s.segment_in s.strategy_in))

pub returns : goal.returns
unfolding worth_of
returns c =
    ap nat_abs (held (goal.at.returns c).After-benefit-b)
    ∙ of-candidate _ _ _ (sym c.fits_alone.ensures ∙ c.if-not-fits_alone.false) (rw (held (goal.at.returns c).After-benefit-b) at c.if-b-le0.false) (sym c.permitted.ensures ∙ c.if-not-permitted.false)
