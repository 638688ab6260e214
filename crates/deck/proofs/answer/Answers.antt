-- `deck::answer` meets its contract.
use Rattle.std.proofs.Common.{arith}
use Rattle.deck.proofs.Printed.{printed_refused, printed_cards, few, cards_fit}
use Rattle.deck.proofs.answer.Goals as goal

pub put_cards-requires : goal.put_cards-requires
put_cards-requires c =
    let says = c.in-Ok.ensures.says in
    record { few = few c.args.bytes.now says; room = omega (arith, cards_fit c.args.bytes.now says) }

pub returns-in-Ok : goal.returns-in-Ok
returns-in-Ok c =
    let read = c.in-Ok.ensures in
    rw (printed_cards c.args.bytes.now read.says read.refused) c.put_cards.ensures

pub returns-in-Err : goal.returns-in-Err
returns-in-Err c =
    rw (printed_refused c.args.bytes.now c.in-Err.refusal c.in-Err.ensures.refused) c.put_refusal.ensures
