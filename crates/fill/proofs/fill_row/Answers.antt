-- `fill::fill_row` meets its contract.
use mathlib.Core.Path.{◌∙◌}
use Prim.Native.Nat.{◌+◌}
use Rattle.std.proofs.Common.{rules}
use Rattle.rules.specs.Table.{usage_in}
use Rattle.fill.proofs.Front.{from_1}
use Rattle.fill.proofs.fill_row.Goals as goal

pub returns : goal.returns
returns c =
    let usage = usage_in c.args.d.district.now c.args.i c.args.j in
    c.fill_each.ensures (λ r. usage (r + 1)) (λ r v h e. search rules) ∙ from_1 usage c.requires.1
