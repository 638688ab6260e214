-- The table's entries, by cases: what the district has, and what it does not have.
use Prim.Native.Nat.{ℕ, zero, suc, ◌*◌, ◌≤◌, ◌<◌}
use mathlib.Core.Path.{◌≡◌, refl, sym, ◌∙◌}
use mathlib.Core.Bool.{Bool, true, false, ◌&&◌, and-false}
use native.Mathlib.Nat.{zero-mul}
use native.Mathlib.Omega.{arith}
use borrow.Author.Tests.{le-leb, lt-leb}
use lib.IntN.{nat_abs}
use Rattle.base.specs.Choice.{pick}
use Rattle.base.specs.Over.{between}
use Rattle.std.proofs.lemmas.Bool.{and_parts}
use Rattle.base.proofs.Choice.{between_in}
use Rattle.rules.specs.District.{District, segments_of, strategies_of, resources_of, requirement_of}
use Rattle.grammar.specs.Ranges.{Ranges}
use Rattle.rules.specs.Rating.{area, benefit, usage, scaled_limit, candidate}
use Rattle.rules.specs.Table.{has, candidate_benefit, usage_in, limit_in}
use Rattle.rating.specs.Areas.{area_in}
use Rattle.rating.specs.Numbers.{Segment, Strategy, Resource}
use Rattle.rating.proofs.Bounds.{benefit_abs, usage_le, limit_le}

-- of a strategy, which is not nothing
pub usage_of : (d : District) (i j r : ℕ) → 1 ≤ j → area d i * requirement_of d j r ≡ usage d i j r
unfolding usage
usage_of d i zero r h = elim h [ ]
usage_of d i (suc j) r h = refl

pub has_in : (d : District) (i j : ℕ) → has d i j ≡ true → ((1 ≤ i) × (i ≤ segments_of d)) × ((1 ≤ j) × (j ≤ strategies_of d))
has_in d i j e =
    let t = and_parts (between 1 (segments_of d) i) (between 1 (strategies_of d) j) e in
    (between_in 1 (segments_of d) i t.0, between_in 1 (strategies_of d) j t.1)

pick_zero : (t : Bool) (x : ℕ) → x ≡ 0 → 0 ≡ pick t x 0
pick_zero true x e = sym e
pick_zero false x e = refl

module _ (d : District) (i j r : ℕ) where
  pub usage_none : area_in d i j ≡ 0 → 0 ≡ usage_in d i j r
  unfolding area_in usage_in
  usage_none e = go (has d i j) refl
    where
      go : (t : Bool) → has d i j ≡ t → 0 ≡ usage_in d i j r
      go false f = rw f
      go true f =
          let a : area d i ≡ 0 = rw f at e in
          let u : usage d i j r ≡ 0 = sym (usage_of d i j r (has_in d i j f).1.0) ∙ rw (a, zero-mul) in
          pick_zero (has d i j && between 1 (resources_of d) r) (usage d i j r) u

  pub usage_past : resources_of d < r → 0 ≡ usage_in d i j r
  unfolding usage_in
  usage_past h = simp (lt-leb r (resources_of d) h, and-false)

  -- where there is an area, the district has segment and strategy
  pub treated : (area_in d i j ≡ 0 → ⊥) → has d i j ≡ true
  unfolding area_in
  treated h = go (has d i j) refl
    where
      go : (t : Bool) → has d i j ≡ t → has d i j ≡ true
      go true f = f
      go false f = absurd (h (rw f))

  pub usage_some : has d i j ≡ true → 1 ≤ r → r ≤ resources_of d → area_in d i j * requirement_of d j r ≡ usage_in d i j r
  unfolding area_in usage_in
  usage_some e p q = rw (e, le-leb 1 r p, le-leb r (resources_of d) q) (usage_of d i j r (has_in d i j e).1.0)

-- ---- how large the entries of a district in range can be, wherever they stand

pick_le : (t : Bool) (x : ℕ) {m : ℕ} → (t ≡ true → x ≤ m) → pick t x 0 ≤ m
pick_le true x h = h refl
pick_le false x h = omega arith

pub area_in_le : (d : District) (i j : ℕ) {m : ℕ} → area d i ≤ m → area_in d i j ≤ m
unfolding area_in
area_in_le d i j h = pick_le (has d i j) (area d i) (λ _. h)

module _ (d : District) (ok : Ranges d) where
  -- what the district has is within the format's counts
  pub has_within : (i j : ℕ) → has d i j ≡ true → Segment i × Strategy j
  has_within i j e =
      let h = has_in d i j e in
      let n = ok.segments in
      let s = ok.strategies in
      ((h.0.0, omega arith), (h.1.0, omega arith))

  pub resource_within : (r : ℕ) → between 1 (resources_of d) r ≡ true → Resource r
  resource_within r e =
      let h = between_in 1 (resources_of d) r e in
      let n = ok.resources in
      (h.0, omega arith)

  pub candidate_benefit_le : (i j : ℕ) → candidate_benefit d i j ≤ 899_910_000_000
  unfolding candidate_benefit
  candidate_benefit_le i j =
      pick_le (has d i j && candidate d i j) (nat_abs (benefit d i j)) (λ e. let w = has_within i j (and_parts (has d i j) (candidate d i j) e).0 in benefit_abs d ok i j w.0 w.1)

  pub usage_in_le : (i j r : ℕ) → usage_in d i j r ≤ 1_999_798_000_200
  unfolding usage_in
  usage_in_le i j r =
      pick_le (has d i j && between 1 (resources_of d) r) (usage d i j r)
      (λ e. let t = and_parts (has d i j) (between 1 (resources_of d) r) e in let w = has_within i j t.0 in usage_le d ok i j r w.0 w.1.1 (resource_within r t.1))

  pub limit_in_le : (r : ℕ) → limit_in d r ≤ 99_999_999_900_000
  unfolding limit_in
  limit_in_le r = pick_le (between 1 (resources_of d) r) (scaled_limit d r) (λ e. limit_le d ok r (resource_within r e))
