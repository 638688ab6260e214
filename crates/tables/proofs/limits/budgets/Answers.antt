-- `tables::budgets` meets its contract.
use Rattle.std.proofs.Common.{rules}
use Rattle.tables.proofs.limits.budgets.Goals as goal

pub returns : goal.returns
returns c = record {
  places = search rules;
  each = λ r lr hr. let there = c.by_resource.ensures.each r lr hr in search rules;
}
