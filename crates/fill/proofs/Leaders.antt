-- The array of leaders holds the district's.
use Prim.Native.Nat.{ℕ, zero, suc, ◌+◌, ◌-◌, ◌≤◌, ◌<◌}
use mathlib.Core.Path.{◌≡◌, refl, ap, sym, fun_ext, ◌∙◌}
use mathlib.Core.Bool.{Bool, true, false}
use native.Mathlib.Omega.{arith}
use borrow.Author.Tests.{leb-true, leb-false}
use lib.Dec.{leb}
use lib.ListN.{length, get_or-eq_default}
use Rattle.base.proofs.Each.{each_listed}
use Rattle.base.proofs.Listed.{listed_at, listed_length}
use Rattle.grammar.specs.Ranges.{Ranges}
use Rattle.rules.specs.District.{District, leader_of, leader_place, most_segments}
use Rattle.tables.specs.Arrays.{leader_in, Leaders}
use Rattle.fill.specs.Lists.{leader_list}

module _ (d : District) (ok : Ranges d) where
  length_is : length (leader_list d) ≡ most_segments
  unfolding leader_list
  length_is = listed_length (leader_of d) most_segments 1

  within : (i : ℕ) → 1 ≤ i → i ≤ most_segments → leader_in (leader_list d) i ≡ leader_of d i
  unfolding leader_list
  within i low high =
      let e : 1 + (i - 1) ≡ i = omega arith in
      listed_at most_segments 1 (i - 1) (leader_of d) (omega arith) ∙ ap (leader_of d) e

  -- what has no place in the array has none in the district
  past : (i : ℕ) → most_segments < i → leader_in (leader_list d) i ≡ leader_of d i
  unfolding leader_of
  past i high =
      get_or-eq_default (leader_list d) 0 {n = i - 1} (omega (arith, length_is)) ∙ sym (get_or-eq_default d 0 {n = leader_place i} (omega (arith, ok.places)))

  -- 0 is read at the place of 1
  leader_is : (i : ℕ) → leader_in (leader_list d) i ≡ leader_of d i
  unfolding leader_of
  leader_is zero = within 1 (omega arith) (omega arith)
  leader_is (suc i) = known (leb (suc i) most_segments) refl
    where
      known : (t : Bool) → leb (suc i) most_segments ≡ t → leader_in (leader_list d) (suc i) ≡ leader_of d (suc i)
      known true e = within (suc i) (omega arith) (leb-true (suc i) most_segments e)
      known false e = past (suc i) (leb-false (suc i) most_segments e)

  pub leaders_are : leader_in (leader_list d) ≡ leader_of d
  leaders_are = fun_ext leader_is

  pub leaders_held : Leaders (leader_list d)
  unfolding leader_list
  leaders_held =
      record {
        places = length_is;
        small = each_listed (λ v. v ≤ most_segments) 0 most_segments 1 (leader_of d) (omega arith) (λ i low high. omega (arith, ok.leader i low (omega arith)));
      }
