-- `words::next` meets its contract.
use Rattle.std.proofs.Common.{not, length, drop, ◌≡◌, sym, ap, ◌∷◌, ◌∙◌, arith}
use borrow.Author.Tests.{true-eqb, false-eqb}
use Rattle.std.proofs.lemmas.List.Sums.{prefix_len-le-length}
use Rattle.texts.specs.Words.{is_blank, words_in}
use Rattle.texts.proofs.Parts.{next_word, last_word}
use Rattle.texts.proofs.words.next.Goals as goal

pub split_at-requires : goal.split_at-requires
split_at-requires c = omega (arith, c.blanks_in_front.ensures, prefix_len-le-length (λ x. not (not (is_blank x))) c.args.bytes.now)

pub returns-then-is_empty : goal.returns-then-is_empty
returns-then-is_empty c = last_word c.args.bytes.now c.split_at.result.1.now c.blanks_in_front.result c.blanks_in_front.ensures c.split_at.ensures.back (true-eqb _ 0 c.if-is_empty.ensures)

pub split_at-requires-2 : goal.split_at-requires-2
split_at-requires-2 c = omega (arith, c.before_blank.ensures, prefix_len-le-length (λ x. not (is_blank x)) c.split_at.result.1.now)

pub returns : goal.returns
returns c =
    let rest = c.split_at.result.1.now in
    next_word c.args.bytes.now rest c.blanks_in_front.result c.before_blank.result c.blanks_in_front.ensures c.split_at.ensures.back c.before_blank.ensures (let k : ¬ (length rest ≡ 0) = false-eqb _ 0 c.if-is_empty.ensures in omega arith)
    ∙ ap (λ w. w ∷ words_in (drop c.before_blank.result rest)) (sym c.split_at-2.ensures.front)
    ∙ ap (λ r. c.split_at-2.result.0.now ∷ words_in r) (sym c.split_at-2.ensures.back)
