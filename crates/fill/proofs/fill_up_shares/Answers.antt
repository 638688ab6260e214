-- `fill::fill_up_shares` meets its contract.
use mathlib.Core.Path.{◌≡◌, ◌∙◌}
use native.Mathlib.Nat.{div-zero}
use Rattle.std.proofs.Common.{rules}
use Rattle.std.specs.Int.{div_ceil}
use Rattle.base.specs.Over.{divide_up}
use Rattle.rules.specs.Phases.{share}
use Rattle.fill.proofs.Shares.{div_ceil_is}
use Rattle.fill.proofs.fill_up_shares.Goals as goal

pub returns : goal.returns
unfolding share
returns c = c.fill_shares.ensures divide_up (λ a. div-zero _) (λ a b v h e. let up : v ≡ div_ceil a b = search rules in up ∙ div_ceil_is a b h)
