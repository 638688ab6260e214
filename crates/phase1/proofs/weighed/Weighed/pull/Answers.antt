-- `phase1::Weighed::pull` meets its contract: a row of shares is lent.
use native.Mathlib.Omega.{arith}
use Rattle.phase1.proofs.Pulls.{surplus_le, pull_sum}
use Rattle.phase1.proofs.weighed.Weighed.pull.Goals as goal

pub pull_by-requires-clause-by_index : goal.pull_by-requires-clause-by_index
pull_by-requires-clause-by_index c =
    let w = c.args.self.now in (
      (λ r low high. rw (c.row_of-row.ensures r low (omega (arith, w.planning.now.t.bounded.resources))) (w.measured.small _ r c.requires.le_i.0 c.requires.le_i.1 low high)),
      (λ r low high. rw (c.requires.over.surplus_is r low high) (surplus_le w.shares_are w.measured r low high)),
    )

pub returns : goal.returns
returns c =
    let w = c.args.self.now in
    pull_sum w.shares_are w.measured.chosen _ c.requires.over _ c.requires.le_i.0 c.requires.le_i.1 w.planning.now.t.bounded.resources c.row_of-row.ensures c.pull_by.ensures
