-- No edit alters the shared tables of a district.
use Prim.Native.Nat.{ℕ, ◌≤◌}
use mathlib.Core.Path.{◌≡◌}
use mathlib.Core.Bool.{false}
use native.Mathlib.Omega.{arith}
use Rattle.rules.specs.District.{District, most_resources, limit_place, bars_place, rating_place, leader_place, resources_of, is_shared, shared_tables}
use Rattle.rules.specs.Answers.{no_such_number}
use Rattle.rules.specs.Calls.{edit_refusal, edited}
use Rattle.rules.specs.declared.Edit.{Edit}
use Rattle.rules.specs.declared.Edit.TheVariants.{Bar, Unbar, SetLimit, SetRating, SetLeader}
use Rattle.grammar.proofs.Edits.{one_to_lem}
use Rattle.shared.proofs.Tables.{set_own, limits_own, segments_own}

-- limits stand between the counts and the greatest ratings
limit_place_lem : (d : District) (r limit : ℕ) → resources_of d ≤ most_resources → edit_refusal d (SetLimit r limit) ≡ 0 → is_shared (limit_place r) ≡ false
limit_place_lem d r limit few e =
    let w = one_to_lem r (resources_of d) no_such_number _ (omega arith) e in
    limits_own (limit_place r) (omega arith) (omega arith)

pub edit_shared : (d : District) (x : Edit) → resources_of d ≤ most_resources → edit_refusal d x ≡ 0 → shared_tables (edited d x) ≡ shared_tables d
edit_shared d (Bar i j) few e = set_own d (bars_place i) _ (segments_own (bars_place i) (omega arith))
edit_shared d (Unbar i j) few e = set_own d (bars_place i) _ (segments_own (bars_place i) (omega arith))
edit_shared d (SetLimit r limit) few e = set_own d (limit_place r) _ (limit_place_lem d r limit few e)
edit_shared d (SetRating i k rating) few e = set_own d (rating_place i k) _ (segments_own (rating_place i k) (omega arith))
edit_shared d (SetLeader i leader) few e = set_own d (leader_place i) _ (segments_own (leader_place i) (omega arith))
