-- `station::load` meets its contract.
use mathlib.Core.Path.{sym}
use Rattle.std.proofs.lemmas.Result.{err_from_is_err_and}
use Rattle.station.proofs.Numbers.{which_named, nobody}
use Rattle.station.proofs.Replies.{nobody_plans}
use Rattle.station.proofs.Loads.{file_refused}
use Rattle.station.proofs.load.Goals as goal

pub returns-in_err-w : goal.returns-in_err-w
returns-in_err-w c =
    let none = nobody c.args.n _ _ c.in_err-w.ensures c.from_residual.ensures.1 in
    rw none.0 (nobody_plans _ _ _ none.1)

pub returns-in_err-d : goal.returns-in_err-d
returns-in_err-d c =
    let p = err_from_is_err_and c.from_residual-in_err-d.result c.from_residual-in_err-d.ensures.1 in
    rw (p.1, p.2) (file_refused _ _ _ (which_named _ _ c.in_ok-w.ensures) _ _ c.in_err-d.ensures.refusal)

pub returns : goal.returns
returns c =
    let d = c.in_ok-d.ensures in
    rw (which_named c.args.n c.in_ok-w.w c.in_ok-w.ensures) (c.bring.ensures _ (sym d.refusal) (sym d.district))
