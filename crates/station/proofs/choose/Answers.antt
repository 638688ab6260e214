-- `station::choose` meets its contract.
use mathlib.Core.Path.{refl}
use Rattle.rules.specs.Stations.{brings_tables}
use Rattle.station.proofs.Numbers.{which_named, nobody}
use Rattle.station.proofs.Replies.{nobody_plans, put_plans}
use Rattle.station.proofs.choose.Goals as goal

pub returns-in_err-w : goal.returns-in_err-w
returns-in_err-w c =
    let none = nobody c.args.n _ _ c.in_err-w.ensures c.from_residual.ensures.1 in
    rw none.0 (nobody_plans _ _ _ none.1)

pub returns : goal.returns
unfolding brings_tables
returns c = put_plans _ _ _ (which_named _ _ c.in_ok-w.ensures) _ _ _ refl (rw c.own_mut.ensures.value at c.choose.ensures)
