-- `station::why` meets its contract.
use Rattle.station.proofs.Numbers.{which_named, nobody}
use Rattle.station.proofs.Questions.{why_answers, why_nobody, why_in}
use Rattle.station.proofs.why.Goals as goal

pub returns-in_err-w : goal.returns-in_err-w
returns-in_err-w c =
    let none = nobody c.args.n _ _ c.in_err-w.ensures c.from_residual.ensures.1 in
    let tells = why_nobody c.args.n _ none.1 c.args.segment c.args.strategy in
    rw none.0 (record { tells = tells; answers = why_answers c.args.s.now c.args.n _ _ _ tells })

pub returns : goal.returns
returns c =
    let tells = why_in c.args.s.now c.args.n _ (which_named _ _ c.in_ok-w.ensures) _ _ _ (rw c.own.ensures at c.why.ensures) in
    record { tells = tells; answers = why_answers c.args.s.now c.args.n _ _ _ tells }
