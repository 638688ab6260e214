-- `phase3::tops::tops_of` meets its contract: the greatest entry is the greatest benefit.
use Prim.Native.Nat.{◌+◌, ◌-◌}
use mathlib.Core.Path.{◌≡◌, ◌∙◌}
use native.Mathlib.Omega.{arith}
use Rattle.std.proofs.Common.{rules}
use Rattle.base.specs.Over.{most}
use Rattle.tables.specs.Arrays.{entry_at}
use Rattle.base.proofs.Made.{made_at}
use Rattle.tables.proofs.RowMost.{greatest_benefit}
use Rattle.phase3.proofs.tops.tops_of.Goals as goal

pub returns : goal.returns
returns c =
    let t = c.args.t in
    let few = t.bounded in
    record {
      places = c.from_fn.ensures.items.long;
      each = λ i low high.
          let at : i - 1 + 1 ≡ i = omega arith in
          rw at at (made_at (λ x y. y ≡ most t.size.strategies (entry_at t.benefits.entries.now (x + 1))) (λ x y f under called. (search rules, search rules)) c.from_fn.ensures.items (i - 1) 0 (omega (arith, few.segments)))
          ∙ greatest_benefit t.benefits.held t.size.strategies i (record { low = low; high = omega (arith, few.segments); number = few.strategies });
    }
