-- `phase1::sums_of` meets its contract.
use Rattle.std.proofs.Common.{rules}
use Rattle.phase1.proofs.sums_of.Goals as goal

pub returns : goal.returns
returns c = record { each = λ r lr hr. let there = c.by_resource.ensures.each r lr hr in search rules }
