-- `cards::read_field` meets its contract.
use Rattle.std.proofs.Common.{◌+◌, arith}
use Rattle.cards.specs.Cards.{rows_before, counts_with}
use Rattle.cards.proofs.Numbers.{field_read}
use Rattle.cards.proofs.read_field.Goals as goal

pub returns : goal.returns
returns c =
    let a = c.args in
    field_read (counts_with a.card) a.line.now (rows_before a.card + a.n + 1)
    (omega (arith, c.range_of.type_inv))
    c.nth-c.ensures.row
    (c.cut.ensures a.card)
    c.read-number.ensures
    c.range_of.ensures
    c.only_inside.ensures
