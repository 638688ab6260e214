-- The district of a block, as loops make it.
use Prim.Native.Nat.{ℕ, zero, suc, ◌+◌, ◌-◌, ◌*◌, ◌≤◌}
use mathlib.Core.Path.{◌≡◌, refl}
use mathlib.Core.Bool.{true, false}
use native.Mathlib.Omega.{arith}
use lib.ListN.{set}
use Rattle.rules.specs.District.{District, limits_at, segments_at, per_segment, bars_at, resources_of, all_bars}
use Rattle.rules.specs.Blocks.{number_in, in_block, with_parts, barred_outside}
use Rattle.rules.specs.declared.Choice.{Choice}

module _ (x : Choice) (d : District) (b : ℕ) where
  pub parts_none : d ≡ with_parts x d b (1 - 1)
  unfolding with_parts
  parts_none = refl

  pub parts_more : (r : ℕ) {e : District} {n : ℕ} → 1 ≤ r → e ≡ with_parts x d b (r - 1) → n ≡ number_in x d b (1 + r) → set e (limits_at + (r - 1)) n ≡ with_parts x d b (r + 1 - 1)
  unfolding with_parts
  parts_more zero l f g = absurd (omega arith)
  parts_more (suc r) l f g =
      let before : suc r - 1 ≡ r = omega arith in
      let now : suc r + 1 - 1 ≡ suc r = omega arith in
      rw (now, ← (rw before at f), before, ← g)

  pub outside_none : {e : District} → e ≡ with_parts x d b (resources_of d) → e ≡ barred_outside x d b (1 - 1)
  unfolding barred_outside
  outside_none f = f

  -- the next segment is in the block,
  pub outside_in : (i : ℕ) {e : District} → 1 ≤ i → e ≡ barred_outside x d b (i - 1) → in_block x d b i ≡ true → e ≡ barred_outside x d b (i + 1 - 1)
  unfolding barred_outside
  outside_in zero l f here = absurd (omega arith)
  outside_in (suc i) l f here =
      let before : suc i - 1 ≡ i = omega arith in
      let now : suc i + 1 - 1 ≡ suc i = omega arith in
      rw (now, here) (rw before at f)

  -- or it is not
  pub outside_out : (i : ℕ) {e : District} {bars : ℕ} → 1 ≤ i → e ≡ barred_outside x d b (i - 1) → in_block x d b i ≡ false → bars ≡ all_bars d
      → set e (segments_at + per_segment * (i - 1) + bars_at) bars ≡ barred_outside x d b (i + 1 - 1)
  unfolding barred_outside
  outside_out zero l f out k = absurd (omega arith)
  outside_out (suc i) l f out k =
      let before : suc i - 1 ≡ i = omega arith in
      let now : suc i + 1 - 1 ≡ suc i = omega arith in
      rw (now, out, ← (rw before at f), before, k)
