-- `words::next_line` meets its contract.
use Rattle.std.proofs.Common.{sym, ◌∙◌, ap, drop, ◌∷◌}
use borrow.Author.Tests.{true-eqb, false-eqb}
use Rattle.base.specs.Text.{on_from}
use Rattle.texts.specs.Words.{parts, is_line_feed}
use Rattle.texts.proofs.Parts.{no_line, next_line}
use Rattle.texts.proofs.words.next_line.Goals as goal

pub returns-then-is_empty : goal.returns-then-is_empty
returns-then-is_empty c = no_line c.args.bytes.now (true-eqb _ 0 c.if-is_empty.ensures)

pub returns : goal.returns
returns c =
    next_line c.args.bytes.now (false-eqb _ 0 c.if-is_empty.ensures)
    ∙ ap (λ l. l ∷ parts is_line_feed (drop 1 (on_from 10 c.args.bytes.now))) (sym c.up_to.ensures)
    ∙ ap (λ r. c.up_to.result.now ∷ parts is_line_feed r) (ap (drop 1) (sym c.on_from.ensures) ∙ sym c.drop.ensures)
