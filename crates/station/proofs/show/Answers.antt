-- `station::show` meets its contract.
use Rattle.station.proofs.Numbers.{which_named, nobody}
use Rattle.station.proofs.Questions.{show_answers, shown_nobody, shown_in}
use Rattle.station.proofs.show.Goals as goal

pub returns-in_err-w : goal.returns-in_err-w
returns-in_err-w c =
    let none = nobody c.args.n _ _ c.in_err-w.ensures c.from_residual.ensures.1 in
    let tells = shown_nobody c.args.n _ none.1 in
    rw none.0 (record { tells = tells; answers = show_answers c.args.s.now c.args.n _ tells })

pub returns : goal.returns
returns c =
    let tells = shown_in c.args.s.now c.args.n _ (which_named _ _ c.in_ok-w.ensures) _ (rw c.own.ensures at c.show.ensures) in
    record { tells = tells; answers = show_answers c.args.s.now c.args.n _ tells }
