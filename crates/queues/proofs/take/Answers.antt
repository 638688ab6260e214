-- `queues::take` meets its contract.
use Rattle.std.proofs.Common.{◌≡◌, None, Some, option_map, arith, sym, ap, ◌∙◌, rules}
use borrow.Author.Tests.{tests}
use Rattle.std.proofs.lemmas.Iterator.{YieldsList-from_slice}
use Rattle.std.proofs.lemmas.Iterator.Search.{find_from_yields_List}
use Rattle.std.specs.List.{find}
use Rattle.queues.specs.Waits.{queues_in, round_from, waits}
use Rattle.queues.proofs.Turns.{taken_is, oldest_is, none_is}
use Rattle.queues.proofs.take.Goals as goal
use Rattle.queues.proofs.take.Goals.{After-find}

searched : (c : After-find) → option_map (λ x. x.now) c.find.result ≡ find (waits (queues_in c.args.q.now)) (round_from c.args.q.now.turn)
searched c = find_from_yields_List (waits (queues_in c.args.q.now)) _ _ c.find.result c.find.ensures.ran (YieldsList-from_slice (round_from c.args.q.now.turn) cc) (λ x b k h. search (rules, tests))

pub returns-in_err-console-clause-taken : goal.returns-in_err-console-clause-taken
returns-in_err-console-clause-taken c =
    let found = searched (goal.at.returns-in_err-console-clause-taken c).After-find in
    rw c.from_residual.ensures (taken_is (queues_in c.args.q.now) None (ap (option_map (λ x. x.now)) (sym c.in_err-console.was) ∙ found))

pub returns-in_err-waiting-clause-taken : goal.returns-in_err-waiting-clause-taken
returns-in_err-waiting-clause-taken c =
    let q = c.args.q.now in
    let x = c.in_ok-console.field-0.now in
    let found = searched (goal.at.returns-in_err-waiting-clause-taken c).After-find in
    rw c.from_residual-in_err-waiting.ensures
    (none_is q (omega arith) x _ c.place.ensures.place _ c.in_err-waiting.ensures.empty
    ∙ taken_is (queues_in q) (Some x) (ap (option_map (λ x. x.now)) (sym c.in_ok-console.was) ∙ found))

pub returns-clause-taken : goal.returns-clause-taken
returns-clause-taken c =
    let q = c.args.q.now in
    let x = c.in_ok-console.field-0.now in
    let found = searched (goal.at.returns-clause-taken c).After-find in
    oldest_is q (omega arith) x _ c.place.ensures.place _ c.pop.new.self _ _ c.in_ok-waiting.ensures.oldest c.next_to-q.ensures
    ∙ taken_is (queues_in q) (Some x) (ap (option_map (λ x. x.now)) (sym c.in_ok-console.was) ∙ found)

pub find-requires-clause-can : goal.find-requires-clause-can
find-requires-clause-can c = tt

pub find-requires-clause-finite : goal.find-requires-clause-finite
find-requires-clause-finite c = tt
