-- The best candidate of a segment of the district is the one of its table.
use Prim.Native.Nat.{ℕ, ◌≤◌}
use mathlib.Core.Path.{◌≡◌, refl, sym, ◌∙◌}
use mathlib.Core.Bool.{Bool, true, false, ◌&&◌}
use borrow.Author.Tests.{lt-ltb}
use lib.IntN.{pos}
use lib.Signed.{lt_z}
use Rattle.std.proofs.lemmas.Bool.{and_parts}
use Rattle.base.proofs.Best.{best_cong}
use Rattle.base.proofs.Integers.{positive_is}
use Rattle.rules.specs.District.{District, segments_of, strategies_of}
use Rattle.rules.specs.Rating.{benefit, permitted, fits_alone, candidate}
use Rattle.rules.specs.Table.{candidate_benefit, table_of}
use Rattle.rules.specs.Phases.{is_candidate, greater, top_candidate}
use Rattle.laws.proofs.Steps.{candidate_worth}
use Rattle.theorems.specs.GoodBudget.{more_benefit, best_candidate}
use Rattle.theorems.proofs.Entries.{has_both, candidate_benefit_lem}

module _ (d : District) (i : ℕ) (l : 1 ≤ i) (h : i ≤ segments_of d) where
  positive : (j : ℕ) → candidate d i j ≡ true → lt_z (pos 0) (benefit d i j) ≡ true
  unfolding candidate
  positive j e =
      (and_parts (lt_z (pos 0) (benefit d i j)) (fits_alone d i j)
      (and_parts (permitted d i j) (lt_z (pos 0) (benefit d i j) && fits_alone d i j) e).1).0

  pub worth : (j : ℕ) → 1 ≤ j → j ≤ strategies_of d → candidate d i j ≡ true → 1 ≤ candidate_benefit d i j
  unfolding candidate_benefit
  worth j lj hj e = rw (has_both d i j l h lj hj, e) (positive_is (benefit d i j) (positive j e)).1

  -- the same strategies are candidates,
  candidate_is : (j : ℕ) → 1 ≤ j → j ≤ strategies_of d → is_candidate (table_of d) i j ≡ candidate d i j
  unfolding is_candidate table_of candidate_benefit
  candidate_is j lj hj = known (candidate d i j) refl
    where
      known : (x : Bool) → candidate d i j ≡ x → is_candidate (table_of d) i j ≡ candidate d i j
      known true e = lt-ltb 0 (candidate_benefit d i j) (worth j lj hj e) ∙ sym e
      known false e = rw (has_both d i j l h lj hj, e)

  -- and their benefits compare alike
  greater_is :
      (a b : ℕ) → is_candidate (table_of d) i a ≡ true → is_candidate (table_of d) i b ≡ true → greater (table_of d) i a b ≡ more_benefit d i a b
  unfolding greater more_benefit table_of
  greater_is a b ea eb =
      rw (candidate_benefit_lem d i a (candidate_worth (table_of d) i a ea), candidate_benefit_lem d i b (candidate_worth (table_of d) i b eb))

  pub best_is : top_candidate (table_of d) i ≡ best_candidate d i
  unfolding top_candidate best_candidate table_of
  best_is =
      best_cong (strategies_of d) (is_candidate (table_of d) i) (candidate d i) (greater (table_of d) i) (more_benefit d i) candidate_is
      (λ a b la ha lb hb. greater_is a b)
