-- How large the uses of a district in range can be, under any programme.
use Prim.Native.Nat.{ℕ, ◌*◌, ◌≤◌}
use mathlib.Core.List.{List}
use native.Mathlib.Omega.{arith}
use Rattle.base.specs.Over.{sum}
use Rattle.base.proofs.Sums.{sum_bound}
use Rattle.grammar.specs.Ranges.{Ranges}
use Rattle.rating.proofs.Entries.{usage_in_le}
use Rattle.rules.specs.District.{District, segments_of}
use Rattle.rules.specs.Phases.{strategy_at, chosen_usage, used}
use Rattle.rules.specs.Table.{table_of}

module _ (d : District) (ok : Ranges d) (c : List ℕ) (r : ℕ) where
  pub chosen_le : (i : ℕ) → chosen_usage (table_of d) c r i ≤ 1_999_798_000_200
  unfolding chosen_usage table_of
  chosen_le i = usage_in_le d ok i (strategy_at c i) r

  -- of the first n segments
  pub sum_le : (n : ℕ) → sum n (chosen_usage (table_of d) c r) ≤ n * 1_999_798_000_200
  sum_le n = sum_bound n 1_999_798_000_200 (chosen_usage (table_of d) c r) (λ i l h. chosen_le i)

  pub used_le : used (table_of d) c r ≤ 127_987_072_012_800
  unfolding used table_of
  used_le = let n = ok.segments in omega (arith, sum_le (segments_of d))
