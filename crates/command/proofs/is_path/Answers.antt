-- `command::is_path` meets its contract.
use Rattle.std.proofs.Common.{nat_eq, not, rules, arith}
use borrow.Author.Tests.{tests}
use Rattle.std.proofs.lemmas.Bool.Decides.{nat_tests}
use Rattle.std.proofs.lemmas.Iterator.{YieldsList-from_slice}
use Rattle.std.proofs.lemmas.Iterator.Search.{all_from_yields_List}
use Rattle.command.specs.Reading.{is_path}
use Rattle.command.proofs.is_path.Goals as goal

pub returns-then-contains : goal.returns-then-contains
unfolding is_path
returns-then-contains c =
    let a = c.args in
    let all = all_from_yields_List (λ b. not (nat_eq b 0)) _ _ c.all.result c.all.ensures.ran (YieldsList-from_slice a.path.now cc) (λ x b q k. search (rules, tests)) in
    grind (arith, nat_tests, all)
