-- `phase3::look::Look::with_may_count` meets its contract.
use mathlib.Core.Path.{refl, sym, ◌∙◌}
use native.Mathlib.Omega.{arith}
use Rattle.phase3.proofs.ChangeSearch.{top_le}
use Rattle.phase3.proofs.Remembered.{with_same, with_low, with_test}
use Rattle.phase3.proofs.look.Look.with_may_count.Goals as goal

pub overflow_add-at : goal.overflow_add-at
overflow_add-at c =
    let pair = c.args.self.now.pair.now in
    let pass = pair.pass.now in
    let t = pass.planning.now.t in
    omega (arith, pass.topped.each pair.k (omega arith) (omega arith), top_le t.size.strategies t.benefits.held pair.k)

pub returns-then-not-is_another : goal.returns-then-not-is_another
returns-then-not-is_another c = with_same c.args.self.now.setting _ _ (sym c.is_another.ensures ∙ c.if-not-is_another.true)

pub returns-then-at-pass : goal.returns-then-at-pass
returns-then-at-pass c =
    let pair = c.args.self.now.pair.now in
    with_low c.args.self.now.setting _ _ (omega (arith, pair.pass.now.topped.each pair.k (omega arith) (omega arith), c.present_benefit.ensures.value, c.at.ensures.value))

pub returns : goal.returns
returns c =
    with_test c.args.self.now.setting _ _ _ _ (sym c.is_another.ensures ∙ c.if-not-is_another.false) c.refused_by_last.ensures _ refl
