-- `panel::unit` meets its contract.
use mathlib.Core.Path.{ap}
use Rattle.office.specs.declared.Office.{Office}
use Rattle.station.proofs.Numbers.{which_named, named_some}
use Rattle.panel.specs.Console.{UnitNamed}
use Rattle.panel.proofs.unit.Goals as goal

pub returns : goal.returns
unfolding UnitNamed
returns c =
    let w = c.in_ok-w.w in
    let n = c.args.c.now.office in
    (w, (named_some n w (which_named n w c.in_ok-w.ensures), ap (λ (o : Office). o.unit) c.own.ensures))
