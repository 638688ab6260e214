-- `cards::read_fields` meets its contract.
use Rattle.std.proofs.Common.{◌≡◌, ◌∙◌, ap, replicate, arith}
use Rattle.std.proofs.lemmas.Result.{err_from_is_err_and}
use lib.ListN.{set}
use Rattle.base.proofs.All.{all_none, all_next, all_end}
use Rattle.base.proofs.Listed.{fill_none, fill_next, fill_end}
use Rattle.rules.specs.Deck.{per_card, is_good, number_on, numbers_on}
use Rattle.cards.specs.Cards.{rows_before, counts_with}
use Rattle.cards.proofs.Numbers.{good_next, number_next, bad_refuses, wrong_is}
use Rattle.cards.proofs.read_fields.Goals as goal

pub loop-n-init : goal.loop-n-init
loop-n-init c = record { good = all_none _; front = fill_none _ 1 _ }

pub returns-in_err-number-clause-refused : goal.returns-in_err-number-clause-refused
returns-in_err-number-clause-refused c =
    let a = c.args in
    let bad = bad_refuses (counts_with a.card) a.line.now (rows_before a.card) c.loop-n.n c.read_field.ensures (omega arith) c.in_err-number.ensures.ok_part in
    let p = err_from_is_err_and c.from_residual.result c.from_residual.ensures.1 in
    rw (p.1, p.2, wrong_is c.in_err-number.ensures.value c.in_err-number.ensures.ok_part, bad)

pub loop-n-preserved : goal.loop-n-preserved
loop-n-preserved c =
    let a = c.args in
    let l = c.loop-n in
    let b = rows_before a.card in
    let read = c.read_field.ensures in
    let is = c.in_ok-number.ensures.ok_part in
    record {
      good = all_next l.n (is_good (counts_with a.card) a.line.now b) l.invariant.good (good_next (counts_with a.card) a.line.now b l.n read is);
      front = ap (λ v. set v l.n c.in_ok-number.field-0) l.invariant.front ∙ fill_next (number_on (counts_with a.card) a.line.now b) l.n 1 (replicate per_card 0) (omega arith) (number_next (counts_with a.card) a.line.now b l.n read is);
    }

pub returns-clause-refused : goal.returns-clause-refused
returns-clause-refused c =
    let a = c.args in
    let l = c.loop-n in
    rw (all_end per_card l.n (is_good (counts_with a.card) a.line.now (rows_before a.card)) l.invariant.good (omega arith) (omega arith))

pub returns-clause-numbers : goal.returns-clause-numbers
unfolding numbers_on
returns-clause-numbers c =
    let a = c.args in
    let l = c.loop-n in
    let end : l.n ≡ per_card = omega arith in
    l.invariant.front ∙ fill_end (number_on (counts_with a.card) a.line.now (rows_before a.card)) l.n per_card 1 (replicate per_card 0) end (omega arith)
