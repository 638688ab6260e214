-- `station::export` meets its contract.
use Rattle.rules.specs.Lists.{lent_to}
use Rattle.rules.specs.Offices.{lent_bytes}
use Rattle.station.proofs.Numbers.{which_named, nobody}
use Rattle.station.proofs.Questions.{told_nobody, export_told}
use Rattle.station.proofs.export.Goals as goal

pub returns-in_err-w : goal.returns-in_err-w
unfolding lent_bytes lent_to
returns-in_err-w c =
    let none = nobody c.args.n _ _ c.in_err-w.ensures c.from_residual.ensures.1 in
    rw none.0 (told_nobody _ _ _ none.1)

pub returns : goal.returns
returns c = export_told _ _ _ (which_named _ _ c.in_ok-w.ensures) _ _ _ (rw c.own.ensures at c.export.ensures)
