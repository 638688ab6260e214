-- `phase1::Weighed::surplus` meets its contract.
use Rattle.phase1.proofs.Pulls.{no_surplus, some_surplus}
use Rattle.phase1.proofs.weighed.Weighed.surplus.Goals as goal

pub returns-then-draft-r : goal.returns-then-draft-r
returns-then-draft-r c =
    let w = c.args.self.now in
    no_surplus w.shares_are w.measured _ c.requires.0 c.requires.1 w.planning.now.running c.if-draft-r.true

pub returns : goal.returns
returns c =
    let w = c.args.self.now in
    some_surplus w.shares_are w.measured _ c.requires.0 c.requires.1 w.planning.now.running c.if-draft-r.false (w.sums_are.each _ c.requires.0 c.requires.1) c.saturating_sub.ensures
