-- `blocks::Row::all_in_order` meets its contract.
use borrow.Author.Rules.{rules}
use borrow.Author.Tests.{tests}
use Rattle.rules.specs.Blocks.{in_order}
use Rattle.rating.proofs.Chains.{all_from_1}
use Rattle.blocks.proofs.Row.all_in_order.Goals as goal

pub all-requires-clause-can : goal.all-requires-clause-can
all-requires-clause-can c = tt

pub all-requires-clause-finite : goal.all-requires-clause-finite
all-requires-clause-finite c = tt

pub returns : goal.returns
returns c =
    let s = c.args.self.now in
    all_from_1 _ c.blocks-2.ensures (in_order s.choice.now s.ranged.district.now) _ c.all.ensures.ran (λ x b q e. search (rules, tests))
