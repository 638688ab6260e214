-- `phase1::Weighed::limits_hold` meets its contract: the chain's answer is that of the rules' test.
use Rattle.std.proofs.Common.{rules, ◌≤◌, ◌<◌, ℕ}
use borrow.Author.Tests.{tests}
use lib.ListN.{take}
use Rattle.std.proofs.lemmas.Iterator.{cases_from_all, YieldsList-from_slice, YieldsList-from_zip}
use Rattle.phase1.proofs.Pulls.{within_zip}
use Rattle.phase1.proofs.weighed.Weighed.limits_hold.Goals as goal

pub all-requires-clause-can : goal.all-requires-clause-can
all-requires-clause-can c = (tt, tt)

pub all-requires-clause-finite : goal.all-requires-clause-finite
all-requires-clause-finite c = tt

pub returns : goal.returns
returns c =
    let p = c.args.self.now.planning.now in
    within_zip p.running _ _ p.t.limits.held _
    (cases_from_all c.all.new.self _ _ (λ (q : ℕ × ℕ). q.0 ≤ q.1) (λ (q : ℕ × ℕ). q.1 < q.0) c.all.ensures.ran
    (YieldsList-from_zip (YieldsList-from_slice (take p.t.size.resources p.draft.sums) (search rules)) (YieldsList-from_slice p.t.limits.entries.now (search rules)))
    (λ x q k. search (rules, tests)) (λ x q k. search (rules, tests)))
