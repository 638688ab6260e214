-- `phase3::memory::Row::holds_still` meets its contract: the chain's answer is that of the test of every resource.
use Rattle.std.proofs.Common.{◌≡◌, ◌∙◌, sym, true, ℕ, ◌+◌, ◌-◌, ◌<◌, Bool, List, get_or, arith, rules}
use Rattle.std.proofs.iter.runs.Sources.{ranges}
use Rattle.std.specs.Prelude.{IsTrue, ◌↔◌}
use borrow.Author.Tests.{lt-ltb, ltb-true}
use Rattle.base.specs.Over.{all}
use Rattle.tables.proofs.Moves.{all_is}
use Rattle.phase3.specs.declared.memory.Row.{Row}
use Rattle.rules.specs.Phases.{strategy_at}
use Rattle.phase3.specs.Views.{choice_of}
use Rattle.phase3.specs.Memory.{below, same_strategies}
use Rattle.phase3.proofs.memory.Row.holds_still.Goals as goal

below_is : (n : ℕ) (slacks : List ℕ) (row : Row) (r : Bool) → IsTrue r ↔ ((k : ℕ) → k < n → get_or slacks k 0 < get_or row.excesses k 0) → r ≡ all n (below slacks row)
unfolding below
below_is n slacks row r h =
    all_is n (below slacks row) r (
      (λ e k under. let here : k + 1 - 1 ≡ k = omega arith in rw here (lt-ltb _ _ (h.0 e k under))),
      (λ g. h.1 (λ k under. let here : k + 1 - 1 ≡ k = omega arith in ltb-true _ _ (rw here at (g k under)))),
    )

pub all-requires-clause-can : goal.all-requires-clause-can
all-requires-clause-can c = tt

pub all-requires-clause-finite : goal.all-requires-clause-finite
all-requires-clause-finite c = tt

pub returns-then-eq : goal.returns-then-eq
returns-then-eq c =
    let pair = c.args.pair.now in
    let c₀ = choice_of pair.pass.now in
    let same : same_strategies c.args.self.now.holds_for (strategy_at c₀ pair.i) (strategy_at c₀ pair.k) ≡ true = rw c.strategies.ensures at (sym c.eq.ensures ∙ c.if-eq.true) in
    rw same (below_is _ _ _ _ (search (rules, ranges)))
