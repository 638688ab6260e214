-- `ceiling::Search::whole` meets its contract.
use Prim.Native.Nat.{◌^◌, ◌<◌, ◌≤◌}
use mathlib.Core.Path.{◌≡◌}
use native.Mathlib.Omega.{arith}
use borrow.Author.Rules.{rules}
use lib.ListN.{take}
use Rattle.std.specs.List.{sum as list_sum}
use Rattle.rules.specs.District.{most_resources}
use Rattle.ceiling.proofs.Costs.{prices_sum, list_small}
use Rattle.ceiling.proofs.Search.whole.Goals as goal

pub sum-requires-clause-fits : goal.sum-requires-clause-fits
sum-requires-clause-fits c =
    let s = c.args.self.now in
    let few : s.table.size.resources ≤ most_resources = s.table.sized.resources_to in
    let small : list_sum (take s.table.size.resources s.prices) < 2 ^ 64 = omega (arith, list_small s.fit s.table.size.resources few) in
    search rules

pub overflow_mul-result : goal.overflow_mul-result
overflow_mul-result c =
    let s = c.args.self.now in
    let few : s.table.size.resources ≤ most_resources = s.table.sized.resources_to in
    let is : c.sum.result ≡ list_sum (take s.table.size.resources s.prices) = search rules in
    omega (arith, list_small s.fit s.table.size.resources few)

pub returns : goal.returns
returns c =
    let s = c.args.self.now in
    let few : s.table.size.resources ≤ most_resources = s.table.sized.resources_to in
    let is : c.sum.result ≡ list_sum (take s.table.size.resources s.prices) = search rules in
    omega (arith, prices_sum s.prices s.table.size.resources (omega (arith, s.fit.places)))
