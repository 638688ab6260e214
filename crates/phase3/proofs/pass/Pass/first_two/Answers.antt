-- `phase3::pass::Pass::first_two` meets its contract: how its loops go on.
use mathlib.Core.Path.{sym}
use borrow.Author.Count.{below_more}
use native.Mathlib.Omega.{arith}
use Rattle.phase3.proofs.ChangeSearch.{of_low, found_pair}
use Rattle.phase3.proofs.pass.Pass.first_two.Goals as goal

pub loop-k-init : goal.loop-k-init
loop-k-init c = (λ p lp u. of_low _ _ _ _ p lp, c.loop-i.invariant.1)

pub loop-k-preserved : goal.loop-k-preserved
loop-k-preserved c = (below_more _ _ c.loop-k.invariant.0 (λ u. sym c.in_default.ensures.found.is), c.in_default.ensures.memory)

pub returns-in-Some-clause-found : goal.returns-in-Some-clause-found
returns-in-Some-clause-found c =
    found_pair _ _ _ _ c.loop-i.auto.i (omega arith) c.loop-k-test.true c.loop-i.invariant.0 c.loop-k.invariant.0 c.in-Some.ensures.found
