-- `blocks::Row::parts_fit` meets its contract.
use Rattle.std.proofs.Common.{◌∙◌, ap, rules}
use borrow.Author.Tests.{tests}
use lib.Dec.{leb}
use Rattle.std.specs.Prelude.{is_some}
use Rattle.base.specs.Over.{sum}
use Rattle.rules.specs.District.{limit_of}
use Rattle.rules.specs.Blocks.{blocks_in, part_in, parts_fit}
use Rattle.rating.proofs.Chains.{from_1}
use Rattle.base.proofs.Folds.{try_fold_from_yields_List}
use Rattle.blocks.proofs.Parts.{taken, taken_is, parts_taken}
use Rattle.blocks.proofs.Row.parts_fit.Goals as goal

pub try_fold-requires-clause-can : goal.try_fold-requires-clause-can
try_fold-requires-clause-can c = tt

pub try_fold-requires-clause-finite : goal.try_fold-requires-clause-finite
try_fold-requires-clause-finite c = tt

pub returns : goal.returns
unfolding parts_fit part_in limit_of
returns c =
    let s = c.args.self.now in
    let part = part_in s.choice.now s.ranged.district.now c.args.r in
    c.is_some.ensures
    ∙ ap is_some (try_fold_from_yields_List (taken part) c.limit_at-limit.result _ _ c.try_fold.ensures.ran (from_1 _ c.blocks-2.ensures) (λ left b r q k. (search (rules, tests), taken_is part left b r (search (rules, tests)))))
    ∙ parts_taken part (blocks_in s.choice.now s.ranged.district.now) c.limit_at-limit.result
    ∙ ap (λ limit. leb (sum (blocks_in s.choice.now s.ranged.district.now) part) limit) c.limit_at-limit.ensures
