-- `fill::share` meets its contract.
use Prim.Native.Nat.{◌*◌}
use mathlib.Core.Path.{sym}
use native.Mathlib.Omega.{arith}
use lib.ListN.{get_or}
use Rattle.fill.specs.Lists.{share_entry}
use Rattle.fill.proofs.share.Goals as goal

pub overflow_mul-u : goal.overflow_mul-u
overflow_mul-u g c = omega (arith, c.args.uses.held.small c.args.n)

pub returns-then-l-eq0 : goal.returns-then-l-eq0
unfolding share_entry
returns-then-l-eq0 g c = λ q zero _. rw c.if-l-eq0.true (sym (zero (get_or c.args.uses.entries.now c.args.n 0 * 10_000)))

pub returns-else-l-eq0 : goal.returns-else-l-eq0
unfolding share_entry
returns-else-l-eq0 g c = λ q _ is. is _ _ _ (omega arith) c.quotient.ensures
