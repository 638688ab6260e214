-- The district of a block beside the whole one: the same but for limits, which are the block's parts, and bars on the segments outside. Its
-- candidates are candidates of the whole district, with the same benefits and uses.
use Prim.Native.Nat.{ℕ, zero, suc, ◌-◌, ◌*◌, ◌≤◌, ◌<◌}
use mathlib.Core.Path.{◌≡◌, refl, sym, ap, ◌∙◌}
use mathlib.Core.Bool.{Bool, true, false, not, ◌&&◌, true≢false}
use native.Mathlib.Omega.{arith}
use lib.IntN.{pos, nat_abs}
use lib.ListN.{length, length-set}
use lib.Seq.{get_or-set_same, get_or-set_other}
use lib.Signed.{lt_z}
use borrow.Author.Tests.{le-leb, lt-ltb, eq-eqb, not-true}
use Rattle.std.specs.Int.{bit_at}
use Rattle.std.proofs.lemmas.Bool.{and_parts, and_from, true_from_ne_false}
use Rattle.std.proofs.lemmas.Nat.Bits.{bit_at_ones}
use Rattle.base.specs.Choice.{pick}
use Rattle.base.proofs.All.{all_true}
use Rattle.base.proofs.Choice.{pick_all, between_yes}
use Rattle.base.proofs.Sums.{up_to}
use Rattle.rules.specs.District.{District, most_segments, district_places, limit_place, bars_place, segments_of, strategies_of, resources_of, limit_of, bars_of, barred_in, all_bars, with_bars}
use Rattle.rules.specs.Rating.{benefit, usage, scaled_limit, minima_reached, overall_reached, permitted, fits_limit, fits_alone, candidate}
use Rattle.rules.specs.Table.{candidate_benefit, table_of}
use Rattle.rules.specs.Blocks.{part_of, in_block, with_parts, barred_outside, block_district}
use Rattle.rules.specs.declared.Choice.{Choice}
use Rattle.laws.specs.Counts.{Few}
use Rattle.laws.proofs.Blocks.{parts_all, outside_all, block_all}
use Rattle.theorems.proofs.Alike.{Alike, alike_self, limit_alike, bars_alike, usage_same, minima_same, overall_reached_same, benefit_same}
use Rattle.theorems.proofs.Entries.{usage_is, candidate_permitted, candidate_fits, candidate_benefit_lem}

module _ (x : Choice) (d : District) (few : Few d) (b : ℕ) where
  pub alike : Alike d (block_district x d b)
  alike =
      block_all x d b (Alike d) (alike_self d) (λ r l h e same. limit_alike d e same r (part_of x d b r) (omega (arith, few.resources)))
      (λ i l h e same. bars_alike d e same i (all_bars d))

  pub same_segments : segments_of (block_district x d b) ≡ segments_of d
  same_segments = alike.counts 0 (omega arith)

  pub same_strategies : strategies_of (block_district x d b) ≡ strategies_of d
  same_strategies = alike.counts 1 (omega arith)

  pub same_resources : resources_of (block_district x d b) ≡ resources_of d
  same_resources = alike.counts 5 (omega arith)

  -- ---- its limits are the parts

  parts_length : (n : ℕ) → length (with_parts x d b n) ≡ district_places
  parts_length n =
      parts_all x d b (λ e. length e ≡ district_places) few.places n (λ r l h e same. length-set e (limit_place r) (part_of x d b r) ∙ same)

  parts_limit : (n : ℕ) → n ≤ resources_of d → (r : ℕ) → 1 ≤ r → r ≤ n → limit_of (with_parts x d b n) r ≡ part_of x d b r
  unfolding with_parts limit_of
  parts_limit zero h r l k = absurd (omega arith)
  parts_limit (suc n) h r l k =
      let e = with_parts x d b n in
      up_to k
      (λ q. rw q (get_or-set_same e (limit_place (suc n)) (part_of x d b (suc n)) 0 (omega (arith, parts_length n, few.resources))))
      (λ m.
      get_or-set_other e (limit_place (suc n)) (limit_place r) (part_of x d b (suc n)) 0 (λ z. omega arith)
      ∙ parts_limit n (omega arith) r l m)

  pub block_limit : (r : ℕ) → 1 ≤ r → r ≤ resources_of d → limit_of (block_district x d b) r ≡ part_of x d b r
  unfolding block_district limit_of
  block_limit r l h =
      outside_all x d b (λ e. limit_of e r ≡ part_of x d b r) (parts_limit (resources_of d) (omega arith) r l h) (segments_of d)
      (λ i k m e same. get_or-set_other e (bars_place i) (limit_place r) (all_bars d) 0 (λ z. omega (arith, few.resources)) ∙ same)

  -- ---- outside every strategy is barred, and inside none is that was not

  outside_length : (n : ℕ) → length (barred_outside x d b n) ≡ district_places
  outside_length n =
      outside_all x d b (λ e. length e ≡ district_places) (parts_length (resources_of d)) n
      (λ i l h e same. length-set e (bars_place i) (all_bars d) ∙ same)

  parts_bars : (i : ℕ) → bars_of (with_parts x d b (resources_of d)) i ≡ bars_of d i
  unfolding bars_of
  parts_bars i =
      parts_all x d b (λ e. bars_of e i ≡ bars_of d i) refl (resources_of d)
      (λ r l h e same. get_or-set_other e (limit_place r) (bars_place i) (part_of x d b r) 0 (λ z. omega (arith, few.resources)) ∙ same)

  -- those past the first n segments are as they were
  later_bars : (n i : ℕ) → n < i → bars_of (barred_outside x d b n) i ≡ bars_of d i
  unfolding bars_of
  later_bars n i h =
      outside_all x d b (λ e. bars_of e i ≡ bars_of d i) (parts_bars i) n
      (λ k l m e same. get_or-set_other e (bars_place k) (bars_place i) (all_bars d) 0 (λ z. omega arith) ∙ same)

  outside_bars :
      (n : ℕ) → n ≤ most_segments → (i : ℕ) → 1 ≤ i → i ≤ n
      → bars_of (barred_outside x d b n) i ≡ pick (in_block x d b i) (bars_of d i) (all_bars d)
  unfolding barred_outside bars_of
  outside_bars zero h i l k = absurd (omega arith)
  outside_bars (suc n) h i l k =
      up_to k
      (λ q. rw q (here (in_block x d b (suc n))))
      (λ m.
      let before = outside_bars n (omega arith) i l m in
      pick_all (λ (y : District). bars_of y i ≡ pick (in_block x d b i) (bars_of d i) (all_bars d)) (in_block x d b (suc n)) e
      (with_bars e (suc n) (all_bars d)) before
      (get_or-set_other e (bars_place (suc n)) (bars_place i) (all_bars d) 0 (λ z. omega arith) ∙ before))
    where
      e : District
      e = barred_outside x d b n

      here : (t : Bool) → bars_of (pick t e (with_bars e (suc n) (all_bars d))) (suc n) ≡ pick t (bars_of d (suc n)) (all_bars d)
      here true = later_bars n (suc n) (omega arith)
      here false = get_or-set_same e (bars_place (suc n)) (all_bars d) 0 (omega (arith, outside_length n))

  module _ (i : ℕ) (l : 1 ≤ i) (h : i ≤ segments_of d) where
    block_bars : bars_of (block_district x d b) i ≡ pick (in_block x d b i) (bars_of d i) (all_bars d)
    unfolding block_district
    block_bars = outside_bars (segments_of d) few.segments i l h

    barred_off : (j : ℕ) → 1 ≤ j → j ≤ strategies_of d → in_block x d b i ≡ false → barred_in (block_district x d b) i j ≡ true
    unfolding barred_in
    barred_off j lj hj e = rw (block_bars, e) (eq-eqb (bit_at (all_bars d) (j - 1)) 1 (bit_at_ones (strategies_of d) (j - 1) (omega arith)))

    barred_inside : (j : ℕ) → in_block x d b i ≡ true → barred_in (block_district x d b) i j ≡ barred_in d i j
    unfolding barred_in
    barred_inside j e = rw (block_bars, e)

  -- ---- its uses are the district's

  pub block_usage :
      (i j r : ℕ) → 1 ≤ i → i ≤ segments_of d → j ≤ strategies_of d → 1 ≤ r → r ≤ resources_of d
      → (table_of d).usage i j r ≡ (table_of (block_district x d b)).usage i j r
  block_usage i j r l h hj lr hr =
      usage_is d i j r l h hj lr hr
      ∙ sym (usage_same d (block_district x d b) alike i j r (omega (arith, few.strategies)) (omega (arith, few.resources)))
      ∙ sym (usage_is (block_district x d b) i j r l (omega (arith, same_segments)) (omega (arith, same_strategies)) lr (omega (arith, same_resources)))

  -- ---- its candidates

  module _ (fits : (r : ℕ) → 1 ≤ r → r ≤ resources_of d → part_of x d b r ≤ limit_of d r) (i j : ℕ) (l : 1 ≤ i) (h : i ≤ segments_of d) (lj : 1 ≤ j) (hj : j ≤ strategies_of d)
      (worth : 1 ≤ candidate_benefit (block_district x d b) i j) where
    abbrev e : District
    e = block_district x d b

    few_strategies : j ≤ 11
    few_strategies = omega (arith, few.strategies)

    tests : (not (barred_in e i j) ≡ true) × ((minima_reached e i j && overall_reached e i j) ≡ true)
    unfolding permitted
    tests = and_parts (not (barred_in e i j)) (minima_reached e i j && overall_reached e i j) (candidate_permitted e i j worth)

    pub inside : in_block x d b i ≡ true
    inside =
        true_from_ne_false (in_block x d b i)
        (λ q. true≢false (sym (barred_off i l h j lj hj q) ∙ not-true (barred_in e i j) tests.0))

    still_permitted : permitted d i j ≡ true
    unfolding permitted
    still_permitted =
        and_from (not (barred_in d i j)) (minima_reached d i j && overall_reached d i j) (rw (← barred_inside i l h j inside) tests.0)
        (rw (← minima_same d e alike i j few_strategies few l h, ← overall_reached_same d e alike i j few_strategies few l h) tests.1)

    still_fits : fits_alone d i j ≡ true
    unfolding fits_alone fits_limit scaled_limit
    still_fits =
        all_true (resources_of d) (fits_limit d i j)
        (λ r lr hr.
        let use-e = candidate_fits e i j worth r lr (omega (arith, same_resources)) in
        let same = usage_same d e alike i j r few_strategies (omega (arith, few.resources)) in
        le-leb (usage d i j r) (limit_of d r * 100_000)
        (omega (arith, use-e, same, block_limit r lr hr, fits r lr hr)))

    still_candidate : candidate d i j ≡ true
    unfolding candidate
    still_candidate =
        and_from (permitted d i j) (lt_z (pos 0) (benefit d i j) && fits_alone d i j) still_permitted
        (and_from (lt_z (pos 0) (benefit d i j)) (fits_alone d i j)
        (rw (← benefit_same d e alike i j few_strategies few, candidate_benefit_lem e i j worth) (above (candidate_benefit e i j) worth)) still_fits)
      where
        above : (n : ℕ) → 1 ≤ n → lt_z (pos 0) (pos n) ≡ true
        above n p = lt-ltb 0 n p

    pub block_benefit : candidate_benefit d i j ≡ candidate_benefit e i j
    unfolding candidate_benefit
    block_benefit =
        rw (between_yes 1 (segments_of d) i l h, between_yes 1 (strategies_of d) j lj hj, still_candidate)
        (ap nat_abs (sym (benefit_same d e alike i j few_strategies few) ∙ candidate_benefit_lem e i j worth))
