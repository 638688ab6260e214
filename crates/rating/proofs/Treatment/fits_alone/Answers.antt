-- `rating::Treatment::fits_alone` meets its contract.
use borrow.Author.Rules.{rules}
use borrow.Author.Tests.{tests}
use Rattle.rules.specs.Rating.{fits_limit, fits_alone}
use Rattle.rating.proofs.Chains.{all_from_1}
use Rattle.rating.proofs.Treatment.fits_alone.Goals as goal

pub all-requires-clause-can : goal.all-requires-clause-can
all-requires-clause-can c = tt

pub all-requires-clause-finite : goal.all-requires-clause-finite
all-requires-clause-finite c = tt

pub returns : goal.returns
unfolding fits_limit fits_alone
returns c =
    let s = c.args.self.now in
    let test = fits_limit s.ranged.district.now s.segment s.strategy in
    all_from_1 _ c.resources.ensures test _ c.all.ensures.ran (λ x b q e. search (rules, tests))
