-- `station::send` meets its contract.
use Rattle.station.proofs.Numbers.{which_named, nobody}
use Rattle.station.proofs.Replies.{nobody_sends, put_sends}
use Rattle.station.proofs.send.Goals as goal

pub returns-in_err-w : goal.returns-in_err-w
returns-in_err-w c =
    let none = nobody c.args.n _ _ c.in_err-w.ensures c.from_residual.ensures.1 in
    rw none.0 (nobody_sends _ _ _ none.1)

pub returns : goal.returns
returns c = put_sends _ _ _ (which_named _ _ c.in_ok-w.ensures) _ _ _ (rw c.own_mut.ensures.value at c.send.ensures)
