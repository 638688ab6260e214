-- What the entries of a district's table are.
use Prim.Native.Nat.{ℕ, zero, suc, ◌≤◌, ◌<◌}
use mathlib.Core.Path.{◌≡◌, refl}
use mathlib.Core.Bool.{Bool, true, false, ◌&&◌}
use native.Mathlib.Omega.{arith}
use borrow.Author.Tests.{leb-true, le-leb, lt-leb}
use lib.IntN.{pos, nat_abs}
use lib.Signed.{lt_z}
use Rattle.base.specs.Choice.{pick}
use Rattle.std.proofs.lemmas.Bool.{and_parts}
use Rattle.base.proofs.Choice.{between_yes}
use Rattle.base.proofs.Integers.{positive_is}
use Rattle.base.proofs.All.{all_at}
use Rattle.rules.specs.District.{District, most_segments, segments_of, strategies_of, resources_of}
use Rattle.rules.specs.Rating.{benefit, usage, scaled_limit, permitted, fits_limit, fits_alone, candidate}
use Rattle.rules.specs.Table.{has, candidate_benefit, usage_in, limit_in, table_of}
use Rattle.laws.specs.Tables.{FitAlone}

module _ (d : District) where
  pub has_both : (i j : ℕ) → 1 ≤ i → i ≤ segments_of d → 1 ≤ j → j ≤ strategies_of d → has d i j ≡ true
  has_both i j l h lj hj = rw (between_yes 1 (segments_of d) i l h, between_yes 1 (strategies_of d) j lj hj)

  -- ---- uses and limits are the district's

  pub usage_is : (i j r : ℕ) → 1 ≤ i → i ≤ segments_of d → j ≤ strategies_of d → 1 ≤ r → r ≤ resources_of d → (table_of d).usage i j r ≡ usage d i j r
  unfolding table_of usage_in usage
  usage_is i zero r l h s lr hr = rw (between_yes 1 (segments_of d) i l h)
  usage_is i (suc j) r l h s lr hr = rw (has_both i (suc j) l h (omega arith) s, between_yes 1 (resources_of d) r lr hr)

  pub limit_is : (r : ℕ) → 1 ≤ r → r ≤ resources_of d → (table_of d).limit r ≡ scaled_limit d r
  unfolding table_of limit_in
  limit_is r lr hr = rw (between_yes 1 (resources_of d) r lr hr)

  -- ---- benefits are those of candidates

  pub nothing_is : (i : ℕ) → 1 ≤ i → i ≤ segments_of d → candidate_benefit d i 0 ≡ 0
  unfolding candidate_benefit
  nothing_is i l h = rw (between_yes 1 (segments_of d) i l h)

  -- past the segments there are none
  pub past_is : (i j : ℕ) → segments_of d < i → candidate_benefit d i j ≡ 0
  unfolding candidate_benefit
  past_is i j past = rw (le-leb 1 i (omega arith), lt-leb i (segments_of d) past)

  module _ (i j : ℕ) (worth : 1 ≤ candidate_benefit d i j) where
    is_candidate_lem : (has d i j ≡ true) × (candidate d i j ≡ true)
    unfolding candidate_benefit
    is_candidate_lem = and_parts (has d i j) (candidate d i j) (taken (has d i j && candidate d i j) worth)
      where
        taken : (x : Bool) → 1 ≤ pick x (nat_abs (benefit d i j)) 0 → x ≡ true
        taken true w = refl
        taken false w = absurd (omega arith)

    parts : (permitted d i j ≡ true) × ((lt_z (pos 0) (benefit d i j) && fits_alone d i j) ≡ true)
    unfolding candidate
    parts = and_parts (permitted d i j) (lt_z (pos 0) (benefit d i j) && fits_alone d i j) is_candidate_lem.1

    pub candidate_permitted : permitted d i j ≡ true
    candidate_permitted = parts.0

    pub candidate_fits : (r : ℕ) → 1 ≤ r → r ≤ resources_of d → usage d i j r ≤ scaled_limit d r
    unfolding fits_alone fits_limit
    candidate_fits r lr hr =
        let alone = (and_parts (lt_z (pos 0) (benefit d i j)) (fits_alone d i j) parts.1).1 in
        leb-true (usage d i j r) (scaled_limit d r) (all_at (resources_of d) (fits_limit d i j) alone r lr hr)

    pub candidate_benefit_lem : benefit d i j ≡ pos (candidate_benefit d i j)
    unfolding candidate_benefit
    candidate_benefit_lem =
        rw (is_candidate_lem.0, is_candidate_lem.1) (positive_is (benefit d i j) (and_parts (lt_z (pos 0) (benefit d i j)) (fits_alone d i j) parts.1).0).0

  -- ---- what the laws of the phases assume
  pub table_fit : segments_of d ≤ most_segments → FitAlone (table_of d)
  unfolding table_of usage
  table_fit few =
      record {
        segments = few;
        nothing_worth = nothing_is;
        nothing_uses = λ i r l h lr hr. usage_is i 0 r l h (omega arith) lr hr;
        fits = λ i j r l h lj hj lr hr worth. rw (usage_is i j r l h hj lr hr, limit_is r lr hr) (candidate_fits i j worth r lr hr);
      }
