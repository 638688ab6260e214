-- `text::skip` meets its contract.
use Rattle.std.proofs.Common.{◌∙◌, ap, nat_eq, not, length, drop, unwrap_or, rules}
use borrow.Author.Tests.{tests}
use Rattle.std.proofs.lemmas.Iterator.{YieldsList-from_slice}
use Rattle.std.proofs.lemmas.Iterator.Search.{position_from_yields_List}
use Rattle.text.proofs.Found.{skip_found}
use Rattle.text.proofs.skip.Goals as goal

pub returns : goal.returns
returns c =
    let a = c.args in
    let found = position_from_yields_List (λ x. not (nat_eq x a.byte)) _ _ c.position.result c.position.ensures.ran (YieldsList-from_slice a.bytes.now cc) (λ x b q k. search (rules, tests)) in
    c.split_at.ensures.back ∙ ap (λ n. drop n a.bytes.now) (c.unwrap_or-front.ensures ∙ ap (λ o. unwrap_or o (length a.bytes.now)) found) ∙ skip_found a.byte a.bytes.now
