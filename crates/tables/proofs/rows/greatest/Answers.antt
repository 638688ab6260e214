-- `tables::greatest` meets its contract.
use Prim.Native.Nat.{ℕ, ◌<◌, ◌≤◌}
use mathlib.Core.Path.{◌≡◌, ◌∙◌}
use borrow.Author.Rules.{rules}
use Rattle.std.specs.Option.{MatchOption}
use native.Mathlib.Omega.{arith}
use lib.ListN.{length, get_or}
use Rattle.tables.proofs.RowMost.{row, row_most}
use Rattle.tables.proofs.rows.greatest.Goals as goal

pub returns : goal.returns
returns c =
    let law = row_most c.args.table.now (omega arith) c.args.strategies c.args.i c.requires c.entry-from.result c.entry-from.ensures c.max.result in
    let xs = row c.args.table.now c.args.strategies c.entry-from.result in
    let within : MatchOption c.max.result (length xs ≡ 0) (λ m. (k : ℕ) → k < length xs → get_or xs k 0 ≤ m) = search rules in
    let among : MatchOption c.max.result (length xs ≡ 0) (λ m. (k : ℕ) × (k < length xs) × (get_or xs k 0 ≡ m)) = search rules in
    c.unwrap_or.ensures ∙ law within among
