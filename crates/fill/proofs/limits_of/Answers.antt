-- `fill::limits_of` meets its contract.
use Rattle.std.proofs.Common.{rules}
use Rattle.rules.specs.District.{most_resources}
use Rattle.rules.specs.Table.{limit_in}
use Rattle.fill.specs.Lists.{limit_list}
use Rattle.fill.proofs.Front.{each_listed_is}
use Rattle.fill.proofs.limits_of.Goals as goal

pub returns : goal.returns
unfolding limit_list
returns c =
    each_listed_is (limit_in c.args.d.district.now) c.by_resource.result most_resources (search rules)
    (λ r low high. let there = c.by_resource.ensures.each r low high in search rules)
