-- `words::before_blank` meets its contract.
use Rattle.std.proofs.Common.{◌∙◌, ap, length, unwrap_or, rules}
use borrow.Author.Tests.{tests}
use Rattle.std.proofs.lemmas.Iterator.{YieldsList-from_slice}
use Rattle.std.proofs.lemmas.Iterator.Search.{position_from_yields_List}
use Rattle.texts.specs.Words.{is_blank}
use Rattle.texts.proofs.Found.{before_is}
use Rattle.texts.proofs.words.before_blank.Goals as goal

pub returns : goal.returns
returns c =
    let a = c.args in
    let found = position_from_yields_List (is_blank) _ _ c.position.result c.position.ensures.ran (YieldsList-from_slice a.bytes.now cc) (λ x b q k. search (rules, tests)) in
    c.unwrap_or.ensures ∙ ap (λ o. unwrap_or o (length a.bytes.now)) found ∙ before_is (is_blank) a.bytes.now
