-- `fill::fill_down_shares` meets its contract.
use Prim.Native.Nat.{◌/◌}
use native.Mathlib.Nat.{div-zero}
use Rattle.std.proofs.Common.{rules}
use Rattle.rules.specs.Ceiling.{down_share}
use Rattle.fill.proofs.fill_down_shares.Goals as goal

pub returns : goal.returns
unfolding down_share
returns c = c.fill_shares.ensures ◌/◌ div-zero (λ a b v h e. search rules)
