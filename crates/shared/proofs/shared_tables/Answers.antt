-- `shared::shared_tables` meets its contract.
use mathlib.Core.Path.{◌≡◌, sym, ◌∙◌}
use native.Mathlib.Omega.{arith}
use lib.ListN.{length}
use Rattle.std.proofs.Common.{rules}
use Rattle.std.proofs.lemmas.Grind.{same_number_lists}
use Rattle.rules.specs.District.{shared_tables, value_at}
use Rattle.base.proofs.Made.{made_at}
use Rattle.shared.proofs.Tables.{tables_length}
use Rattle.shared.proofs.shared_tables.Goals as goal

pub returns : goal.returns
returns c =
    let d = c.args.d.now in
    let long : length c.from_fn.result ≡ length d = omega (arith, c.from_fn.ensures.items.long) in
    same_number_lists c.from_fn.result (shared_tables d) (long ∙ sym (tables_length d))
    (λ k h. made_at (λ place x. x ≡ value_at (shared_tables d) place) (λ x y f l q. (search rules, search rules)) c.from_fn.ensures.items k 0 (omega arith))
