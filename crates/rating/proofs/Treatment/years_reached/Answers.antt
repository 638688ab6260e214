-- `rating::Treatment::years_reached` meets its contract.
use borrow.Author.Rules.{rules}
use borrow.Author.Tests.{tests}
use Rattle.rules.specs.Rating.{minimum_reached, years_reached}
use Rattle.rating.proofs.Chains.{all_from_1}
use Rattle.rating.proofs.Treatment.years_reached.Goals as goal

pub all-requires-clause-can : goal.all-requires-clause-can
all-requires-clause-can c = tt

pub all-requires-clause-finite : goal.all-requires-clause-finite
all-requires-clause-finite c = tt

pub returns : goal.returns
unfolding years_reached
returns c =
    let s = c.args.self.now in
    let test = minimum_reached s.ranged.district.now s.segment s.strategy c.args.k in
    all_from_1 _ c.years.ensures test _ c.all.ensures.ran (λ x b q e. search (rules, tests))
