-- `command::called` meets its contract.
use Rattle.std.proofs.Common.{◌∙◌, Some, None, option_map, sym, ap, rules}
use borrow.Author.Tests.{tests}
use Rattle.std.proofs.lemmas.Iterator.{YieldsList-from_slice}
use Rattle.std.proofs.lemmas.Iterator.Search.{find_from_yields_List}
use Rattle.command.specs.Reading.{names, meant, taken, placed}
use Rattle.command.proofs.Rows.{says, called_by, few_taken}
use Rattle.command.proofs.called.Goals as goal

pub take-requires : goal.take-requires
take-requires c = rw c.takes.ensures (few_taken c.in_ok-name.name.now)

pub returns-in_err-name : goal.returns-in_err-name
returns-in_err-name c =
    let found = find_from_yields_List (says c.up_to-word.result.now) _ _ c.find.result c.find.ensures.ran (YieldsList-from_slice names cc) (λ x b q k. search (rules, tests)) in
    rw c.from_residual.ensures
    (sym (called_by c.args.line.now c.up_to-word.result.now None c.up_to-word.ensures (ap (option_map (λ x. x.now)) (sym c.in_err-name.was) ∙ found)))

pub returns-in_err-take : goal.returns-in_err-take
unfolding placed meant
returns-in_err-take c =
    let n = c.in_ok-name.name.now in
    let line = c.args.line.now in
    let found = find_from_yields_List (says c.up_to-word.result.now) _ _ c.find.result c.find.ensures.ran (YieldsList-from_slice names cc) (λ x b q k. search (rules, tests)) in
    rw c.from_residual-in_err-take.ensures
    (ap (meant n) (c.in_err-take.ensures ∙ ap (λ t. taken t line) c.takes.ensures)
    ∙ sym (called_by line c.up_to-word.result.now (Some n) c.up_to-word.ensures (ap (option_map (λ x. x.now)) (sym c.in_ok-name.was) ∙ found)))

pub returns : goal.returns
unfolding placed meant
returns c =
    let n = c.in_ok-name.name.now in
    let line = c.args.line.now in
    let found = find_from_yields_List (says c.up_to-word.result.now) _ _ c.find.result c.find.ensures.ran (YieldsList-from_slice names cc) (λ x b q k. search (rules, tests)) in
    c.make.ensures
    ∙ (ap (meant n) (c.in_ok-take.ensures ∙ ap (λ t. taken t line) c.takes.ensures)
    ∙ sym (called_by line c.up_to-word.result.now (Some n) c.up_to-word.ensures (ap (option_map (λ x. x.now)) (sym c.in_ok-name.was) ∙ found)))
