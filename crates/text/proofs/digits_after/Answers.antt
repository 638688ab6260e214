-- `text::digits_after` meets its contract.
use Rattle.std.proofs.Common.{[], ◌∷◌, ◌∙◌, rules}
use borrow.Author.Tests.{tests}
use Rattle.std.proofs.lemmas.Iterator.{YieldsList-from_slice}
use Rattle.base.specs.Text.{value_from, held}
use Rattle.text.proofs.Digits.{digits_folded}
use Rattle.base.proofs.Folds.{try_fold_from_yields_List}
use Rattle.text.proofs.digits_after.Goals as goal

pub returns : goal.returns
returns c =
    let a = c.args in
    try_fold_from_yields_List (λ v b. held (value_from v (b ∷ []))) a.before _ _ c.try_fold.ensures.ran (YieldsList-from_slice a.bytes.now c.iter.ensures.rest) (λ v b r q k. search (rules, tests))
    ∙ digits_folded a.bytes.now a.before c.ranges.before.fits
