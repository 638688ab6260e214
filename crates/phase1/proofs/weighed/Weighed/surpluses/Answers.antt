-- `phase1::Weighed::surpluses` meets its contract.
use Rattle.std.proofs.Common.{rules}
use Rattle.phase1.proofs.weighed.Weighed.surpluses.Goals as goal

pub returns : goal.returns
returns c = record { surplus_is = λ r lr hr. let there = c.by_resource.ensures.each r lr hr in search rules }
