-- The district of a block is in the file's ranges: it differs from the whole one in limits, which are parts of the limits there, and in bars.
use Prim.Native.Nat.{ℕ, zero, suc, ◌+◌, ◌-◌, ◌*◌, ◌^◌, ◌≤◌, ◌<◌}
use mathlib.Core.Path.{◌≡◌, refl, ◌∙◌}
use mathlib.Core.Bool.{true}
use mathlib.Core.List.{List, [], ◌∷◌}
use native.Mathlib.Omega.{arith}
use lib.ListN.{get_or, set, length, length-set}
use lib.Pow.{pow_mono}
use lib.Seq.{get_or-set_other}
use Rattle.rules.specs.District.{District, most_segments, most_years, most_resources, district_places, limit_place, bars_place, greatest_place, strategy_place, gains_at, percents_at, pavement_place, minima_at, segment_place, traffic_at, environment_at, length_at, width_at, ratings_at, leader_at, rating_place, leader_place, strategies_of, limit_of, greatest_of, requirement_of, gain_of, percent_of, overall_of, minimum_of, pavement_of, traffic_of, environment_of, length_of, width_of, bars_of, rating_of, leader_of, all_bars}
use Rattle.rules.specs.Blocks.{blocks_in, part_of, followed, block_district}
use Rattle.rules.specs.declared.Choice.{Choice}
use Rattle.laws.proofs.Blocks.{part_le, block_all}
use Rattle.theorems.proofs.Alike.{Alike}
use Rattle.theorems.proofs.BlockTables.{alike}
use Rattle.grammar.specs.Ranges.{Ranges}
use Rattle.rating.proofs.Few.{few_of}

-- what holds of a new number and of one that was there holds of it afterwards
set_keeps : (P : ℕ → Type 0) (l : List ℕ) (q x p : ℕ) → P x → P (get_or l p 0) → P (get_or (set l q x) p 0)
set_keeps P [] q x p new old = old
set_keeps P (y ∷ l) zero x zero new old = new
set_keeps P (y ∷ l) zero x (suc p) new old = old
set_keeps P (y ∷ l) (suc q) x zero new old = old
set_keeps P (y ∷ l) (suc q) x (suc p) new old = set_keeps P l q x p new old

-- two districts that differ in limits and bars alone
module _ (d e : District) (same : Alike d e) (ranges : Ranges d) where
  alike_ranges : length e ≡ district_places → ((r : ℕ) → 1 ≤ r → r ≤ most_resources → limit_of e r ≤ 999_999_999) → ((i : ℕ) → 1 ≤ i → i ≤ most_segments → bars_of e i < 2 ^ 16) → Ranges e
  unfolding greatest_of requirement_of gain_of percent_of overall_of minimum_of pavement_of traffic_of environment_of length_of width_of rating_of leader_of
  alike_ranges long limits bars =
      record {
        places = long;
        segments = omega (arith, same.counts 0 (omega arith), ranges.segments);
        some_strategy = omega (arith, same.counts 1 (omega arith), ranges.some_strategy);
        strategies = omega (arith, same.counts 1 (omega arith), ranges.strategies);
        some_year = omega (arith, same.counts 2 (omega arith), ranges.some_year);
        years = omega (arith, same.counts 2 (omega arith), ranges.years);
        some_distress = omega (arith, same.counts 3 (omega arith), ranges.some_distress);
        distresses = omega (arith, same.counts 3 (omega arith), ranges.distresses);
        some_pavement = omega (arith, same.counts 4 (omega arith), ranges.some_pavement);
        pavements = omega (arith, same.counts 4 (omega arith), ranges.pavements);
        some_resource = omega (arith, same.counts 5 (omega arith), ranges.some_resource);
        resources = omega (arith, same.counts 5 (omega arith), ranges.resources);
        limit = limits;
        greatest = λ k l h. rw (same.tables (greatest_place k) (omega arith) (omega arith)) (ranges.greatest k l h);
        requirement = λ j r lj hj lr hr. rw (same.tables (strategy_place j + (r - 1)) (omega arith) (omega arith)) (ranges.requirement j r lj hj lr hr);
        gain = λ j k lj hj lk hk. rw (same.tables (strategy_place j + gains_at + (k - 1)) (omega arith) (omega arith)) (ranges.gain j k lj hj lk hk);
        percent =
            λ j k t lj hj lk hk lt ht.
            rw (same.tables (strategy_place j + percents_at + most_years * (k - 1) + (t - 1)) (omega arith) (omega arith))
            (ranges.percent j k t lj hj lk hk lt ht);
        overall = λ y l h. rw (same.tables (pavement_place y) (omega arith) (omega arith)) (ranges.overall y l h);
        minimum =
            λ y k t ly hy lk hk lt ht.
            rw (same.tables (pavement_place y + minima_at + most_years * (k - 1) + (t - 1)) (omega arith) (omega arith))
            (ranges.minimum y k t ly hy lk hk lt ht);
        some_type = λ i l h. rw (same.segments i 0 (segment_place i) (omega arith) (omega arith) (λ z. omega arith)) (ranges.some_type i l (omega (arith, same.counts 0 (omega arith))));
        pavement = λ i l h. rw (same.segments i 0 (segment_place i) (omega arith) (omega arith) (λ z. omega arith)) (ranges.pavement i l h);
        traffic = λ i l h. rw (same.segments i traffic_at (segment_place i + traffic_at) refl (omega arith) (λ z. omega arith)) (ranges.traffic i l h);
        environment = λ i l h. rw (same.segments i environment_at (segment_place i + environment_at) refl (omega arith) (λ z. omega arith)) (ranges.environment i l h);
        mile_length = λ i l h. rw (same.segments i length_at (segment_place i + length_at) refl (omega arith) (λ z. omega arith)) (ranges.mile_length i l h);
        width = λ i l h. rw (same.segments i width_at (segment_place i + width_at) refl (omega arith) (λ z. omega arith)) (ranges.width i l h);
        bars = bars;
        rating =
            λ i k li hi lk hk.
            rw (
              same.segments i (ratings_at + (k - 1)) (rating_place i k) (omega arith) (omega arith) (λ z. omega arith),
              same.tables (greatest_place k) (omega arith) (omega arith),
            )
            (ranges.rating i k li hi lk hk);
        leader = λ i l h. rw (same.segments i leader_at (leader_place i) refl (omega arith) (λ z. omega arith)) (ranges.leader i l h);
      }

module _ (x : Choice) (d : District) (ranges : Ranges d) (follows : followed x d ≡ true) (b : ℕ) (lb : 1 ≤ b) (hb : b ≤ blocks_in x d) where
  long : length (block_district x d b) ≡ district_places
  long =
      block_all x d b (λ e. length e ≡ district_places) ranges.places (λ r l h e same. length-set e (limit_place r) (part_of x d b r) ∙ same)
      (λ i l h e same. length-set e (bars_place i) (all_bars d) ∙ same)

  limits : (r : ℕ) → 1 ≤ r → r ≤ most_resources → limit_of (block_district x d b) r ≤ 999_999_999
  unfolding limit_of
  limits r l h =
      block_all x d b (λ e. limit_of e r ≤ 999_999_999) (ranges.limit r l h)
      (λ n ln hn e before.
      set_keeps (λ v. v ≤ 999_999_999) e (limit_place n) (part_of x d b n) (limit_place r)
      (omega (arith, part_le x d follows b lb hb n ln hn, ranges.limit n ln (omega (arith, ranges.resources)))) before)
      (λ i li hi e before. rw (get_or-set_other e (bars_place i) (limit_place r) (all_bars d) 0 (λ z. omega arith)) before)

  bars : (i : ℕ) → 1 ≤ i → i ≤ most_segments → bars_of (block_district x d b) i < 2 ^ 16
  unfolding bars_of
  bars i l h =
      block_all x d b (λ e. bars_of e i < 2 ^ 16) (ranges.bars i l h)
      (λ n ln hn e before. rw (get_or-set_other e (limit_place n) (bars_place i) (part_of x d b n) 0 (λ z. omega (arith, ranges.resources))) before)
      (λ k lk hk e before.
      set_keeps (λ v. v < 2 ^ 16) e (bars_place k) (all_bars d) (bars_place i) (omega (arith, pow_mono {i = strategies_of d} {j = 11} ranges.strategies)) before)

  pub block_ranges : Ranges (block_district x d b)
  block_ranges = alike_ranges d (block_district x d b) (alike x d (few_of d ranges) b) ranges long limits bars
