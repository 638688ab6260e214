-- `fill::fill_each` meets its contract.
use mathlib.Core.Path.{sym, ap, ◌∙◌}
use native.Mathlib.Nat.{zero-add}
use native.Mathlib.Omega.{arith}
use Rattle.base.proofs.Listed.{fill_none, fill_next}
use Rattle.fill.proofs.fill_each.Goals as goal

pub loop-n-init : goal.loop-n-init
loop-n-init g c = λ f h. fill_none f 0 _

pub loop-n-preserved : goal.loop-n-preserved
loop-n-preserved g c = λ f h.
    let l = c.loop-n in
    rw (l.invariant f h) (fill_next f l.n 0 c.args.list.now (omega arith) (h l.n c.entry.result (omega arith) c.entry.ensures ∙ ap f (sym (zero-add l.n))))
