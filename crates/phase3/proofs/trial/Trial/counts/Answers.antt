-- `phase3::trial::Trial::counts` meets its contract.
use mathlib.Core.Path.{sym, ◌∙◌}
use native.Mathlib.Omega.{arith}
use Rattle.phase3.proofs.Remembered.{pair_low, pair_same, pair_over, pair_test}
use Rattle.phase3.proofs.trial.Trial.counts.Goals as goal

pub returns-then-new-present_benefit : goal.returns-then-new-present_benefit
returns-then-new-present_benefit c =
    pair_low c.args.self.now.look.now.setting _ _ _ _ (omega (arith, c.present_benefit.ensures.value, c.at-2.ensures.value, c.at.ensures.value))

pub returns-then-not-is_another : goal.returns-then-not-is_another
returns-then-not-is_another c = pair_same c.args.self.now.look.now.setting _ _ _ _ (sym c.is_another.ensures ∙ c.if-not-is_another.true)

pub returns-then-refused : goal.returns-then-refused
returns-then-refused c = pair_over c.args.self.now.look.now.setting _ _ _ _ _ _ c.refused.ensures.refusal c.if-refused.true

pub returns : goal.returns
returns c =
    let r = c.refused.ensures in
    pair_test c.args.self.now.look.now.setting _ _ _ _ _ _ r.refusal
    (omega (arith, c.if-new-present_benefit.false, c.present_benefit.ensures.value, c.at-2.ensures.value, c.at.ensures.value))
    c.requires
    (sym c.is_another.ensures ∙ c.if-not-is_another.false)
    (r.fits c.if-refused.false)
    _
    (rw c.change.ensures at c.respects_leaders.ensures)
