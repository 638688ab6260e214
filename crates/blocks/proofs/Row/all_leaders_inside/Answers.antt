-- `blocks::Row::all_leaders_inside` meets its contract.
use borrow.Author.Rules.{rules}
use borrow.Author.Tests.{tests}
use Rattle.rules.specs.Blocks.{leaders_inside}
use Rattle.rating.proofs.Chains.{all_from_1}
use Rattle.blocks.proofs.Row.all_leaders_inside.Goals as goal

pub all-requires-clause-can : goal.all-requires-clause-can
all-requires-clause-can c = tt

pub all-requires-clause-finite : goal.all-requires-clause-finite
all-requires-clause-finite c = tt

pub returns : goal.returns
returns c =
    let s = c.args.self.now in
    all_from_1 _ c.blocks-2.ensures (leaders_inside s.choice.now s.ranged.district.now) _ c.all.ensures.ran (λ x b q e. search (rules, tests))
