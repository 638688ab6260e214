-- `phase3::look::Look::first_change` meets its contract: the new row has numbers that no slack reaches.
use Prim.Native.Nat.{◌-◌, ◌^◌}
use mathlib.Core.Path.{ap}
use Rattle.std.specs.Prelude.{Some}
use native.Mathlib.Omega.{arith}
use Rattle.std.proofs.lemmas.List.{get_or-replicate}
use Rattle.rules.specs.District.{most_resources}
use Rattle.phase3.proofs.Remembered.{searching_start}
use Rattle.phase3.proofs.look.Look.first_change.Goals as goal

pub search-requires : goal.search-requires
search-requires c =
    let s = c.args.self.now.setting in
    searching_start s c.args.self.now.pair.now.pass.now.planning.now.t.limits.held (omega arith) (ap Some c.strategies.ensures)
    (λ r low high. get_or-replicate most_resources (r - 1) (2 ^ 50) 0 (omega (arith, s.running.bounded.resources)))
    _
