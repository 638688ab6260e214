-- `phase1::best_candidate` meets its contract.
use Prim.Native.Nat.{◌+◌}
use mathlib.Core.Path.{sym, ◌∙◌}
use native.Mathlib.Omega.{arith}
use Rattle.base.proofs.Best.{leads_end}
use Rattle.phase1.proofs.Candidates.{passing_none, passing_taken, passing_kept, passing_failed}
use Rattle.phase1.proofs.best_candidate.Goals as goal
use Rattle.phase1.proofs.best_candidate.Goals.{then-most-value+then-passes, else-most-value, else-most-value-via-then-most-value+else-passes, else-most-value-via-else-most-value}

pub loop-j-init : goal.loop-j-init
loop-j-init g c = λ p test. passing_none _ _ p

pub passes-requires : goal.passes-requires
passes-requires g c = rw c.at-value.ensures.value (c.requires.callable (c.loop-j.j + 1) (omega arith) (omega arith))

pub loop-j-preserved : goal.loop-j-preserved
loop-j-preserved g c =
    λ p test.
    let leads = c.loop-j.invariant p test in
    let is = c.at-value.ensures.value in
    elim c.if-most-value.branch [
      | then-most-value+then-passes w ↦
          let told = test (c.loop-j.j + 1) (omega arith) (omega arith) w.passes.result (rw is at w.passes.ensures) in
          rw (w.top-is, w.most-is) (passing_taken _ _ p leads is w.if-most-value.true (sym told ∙ w.if-passes.true))
      | else-most-value w ↦ rw (w.top-is, w.most-is)
          (elim w.else-most-value.branch [
            | else-most-value-via-then-most-value+else-passes v ↦
                let told = test (c.loop-j.j + 1) (omega arith) (omega arith) v.passes.result (rw is at v.passes.ensures) in
                passing_failed _ _ p leads is (sym told ∙ v.if-passes.false)
            | else-most-value-via-else-most-value v ↦ passing_kept _ _ p leads is v.if-most-value.false
          ])
    ]

pub returns : goal.returns
returns g c = λ p test. leads_end _ _ _ _ _ (c.loop-j.invariant p test) (omega arith)
