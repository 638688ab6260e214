-- What a new price does to the costs and to the ceiling, and that no sum of them wraps.
use Prim.Native.Nat.{ℕ, suc, ◌+◌, ◌-◌, ◌*◌, ◌^◌, ◌≤◌, ◌<◌, max, min}
use mathlib.Core.Path.{◌≡◌, refl, sym, ◌∙◌}
use mathlib.Core.Bool.{Bool, true, false}
use mathlib.Core.List.{List}
use native.Mathlib.Nat.{mul-le-mul, le_trans, sub-le, max-eq_left, min-eq_right, mul-div_cancel}
use native.Mathlib.Omega.{arith}
use borrow.Author.Tests.{lt-ltb, le-ltb, eqb-true, eqb-false}
use lib.Dec.{ltb, eqb}
use lib.ListN.{get_or, length, take, set, length-set}
use lib.Seq.{get_or-set_same, get_or-set_other}
use Rattle.std.specs.List.{sum as list_sum}
use Rattle.base.specs.Choice.{pick}
use Rattle.base.specs.Over.{sum, most}
use Rattle.base.proofs.Choice.{leb_same}
use Rattle.base.proofs.Sums.{sum_bound, sum_change, sum_more, most_bound, most_next, sum_next}
use Rattle.rules.specs.District.{most_segments, most_strategies, most_resources}
use Rattle.rules.specs.Table.{Table}
use Rattle.rules.specs.Ceiling.{price_at, down_share, cost_by, cost, net, margin, ceiling_at}
use Rattle.laws.proofs.Give.{given, kept}
use Rattle.tables.specs.Arrays.{entry, use_entry, entries}
use Rattle.tables.specs.declared.Size.{Size}
use Rattle.tables.proofs.Arrays.{front_sum}
use Rattle.ceiling.specs.declared.candidates.Candidates.{Candidates}
use Rattle.ceiling.specs.declared.candidates.NewPrice.{NewPrice}
use Rattle.ceiling.specs.Prices.{In, Sized, priced_table, Prices, Costs}

-- ---- resource r gets the price q

module _ (t : Table) (p : List ℕ) (r q : ℕ) (l : 1 ≤ r) (h : r ≤ t.resources) (room : t.resources ≤ length p) where
  price_new : price_at (set p (r - 1) q) r ≡ q
  price_new = given p r q l (omega arith)

  price_old : (k : ℕ) → 1 ≤ k → (k ≡ r → ⊥) → price_at (set p (r - 1) q) k ≡ price_at p k
  price_old k lk ne = kept p r q k l lk ne

  cost_moved : (i j : ℕ) → cost t (set p (r - 1) q) i j + price_at p r * down_share t i j r ≡ cost t p i j + q * down_share t i j r
  unfolding cost cost_by
  cost_moved i j =
      sum_change t.resources (cost_by t (set p (r - 1) q) i j) (cost_by t p i j) r l h (λ k lk hk ne. rw (price_old k lk ne))
      ∙ rw price_new

  prices_moved : sum t.resources (price_at (set p (r - 1) q)) + price_at p r ≡ sum t.resources (price_at p) + q
  prices_moved =
      sum_change t.resources (price_at (set p (r - 1) q)) (price_at p) r l h (λ k lk hk ne. price_old k lk ne)
      ∙ rw price_new

-- ---- sums of prices

prices_small : {p : List ℕ} → Prices p → (n : ℕ) → sum n (price_at p) ≤ n * 2 ^ 41
prices_small {p} prices n = sum_bound n (2 ^ 41) (price_at p) (λ k l h. omega (arith, prices.small (k - 1)))

-- the same sum of a list
pub prices_sum : (p : List ℕ) (n : ℕ) → n ≤ length p → list_sum (take n p) ≡ sum n (price_at p)
prices_sum p n h = front_sum (λ x. x) p 0 (price_at p) n h (λ k l. let at : k + 1 - 1 ≡ k = omega arith in rw at refl)

pub list_small : {p : List ℕ} → Prices p → (n : ℕ) → n ≤ most_resources → list_sum (take n p) ≤ n * 2 ^ 41
list_small {p} prices n few = omega (arith, prices_sum p n (omega (arith, prices.places)), prices_small prices n)

-- ---- over arrays

-- the strategy after the first j, on segment i
pub inside : {z : Size} {i j : ℕ} → 1 ≤ i → i ≤ z.segments → j < z.strategies → In z i (j + 1)
inside low high number = record { segment_from = low; segment_to = high; strategy_from = omega arith; strategy_to = omega arith }

pub share_is : (z : Size) (b d : List ℕ) (i j r : ℕ) → down_share (priced_table z b d) i j r ≡ get_or d (use_entry i j r) 0
unfolding down_share
share_is z b d i j r = mul-div_cancel (get_or d (use_entry i j r) 0) (omega arith)

module _ {z : Size} {b d : List ℕ} (sized : Sized z b d) where
  -- 16 × 2 ^ 41 × 10,000
  cost_small : {p : List ℕ} → Prices p → {i j : ℕ} → In z i j → 0 < get_or b (entry i j) 0 → cost (priced_table z b d) p i j ≤ 351_843_720_888_320_000
  unfolding cost cost_by
  cost_small {p} prices {i} {j} inside worth =
      let each : (k : ℕ) → 1 ≤ k → k ≤ z.resources → cost_by (priced_table z b d) p i j k ≤ 21_990_232_555_520_000 =
      λ k l h.
      let low : price_at p k ≤ 2 ^ 41 = omega (arith, prices.small (k - 1)) in
      rw (share_is z b d i j k) (mul-le-mul low (sized.share_small i j k inside worth l h)) in
      omega (arith, sum_bound z.resources 21_990_232_555_520_000 (cost_by (priced_table z b d) p i j) each)

  pub margin_small : (p : List ℕ) (i : ℕ) → margin (priced_table z b d) p i ≤ 2 ^ 40
  unfolding margin net
  margin_small p i =
      most_bound z.strategies (2 ^ 40) (net (priced_table z b d) p i)
      (λ j l h. omega (arith, sub-le (get_or b (entry i j) 0) (cost (priced_table z b d) p i j), sized.benefit_small (entry i j)))

  pub margins_small : (p : List ℕ) (n : ℕ) → sum n (margin (priced_table z b d) p) ≤ n * 2 ^ 40
  margins_small p n = sum_bound n (2 ^ 40) (margin (priced_table z b d) p) (λ k l h. margin_small p k)

  pub ceiling_small : {p : List ℕ} → Prices p → ceiling_at (priced_table z b d) p < 2 ^ 62
  unfolding ceiling_at
  ceiling_small {p} prices =
      omega (arith, prices_small prices z.resources, margins_small p z.segments)

-- ---- in a trial

-- what a trial reads beside the costs: arrays, prices, and a new price for resource r
pub record Trial (z : Size) (b d p : List ℕ) (r price : ℕ) : Type 0 where
  pub sized : Sized z b d
  pub prices : Prices p
  pub resource_from : 1 ≤ r
  pub resource_to : r ≤ z.resources
  pub small : price < 2 ^ 41

pub trial_of : (t : Candidates) (new : NewPrice) {p : List ℕ} → Prices p → new.resource ≤ t.size.resources → Trial t.size t.benefits.now t.downs.now p new.resource new.price
trial_of t new prices h = record { sized = t.sized; prices = prices; resource_from = new.from_one; resource_to = h; small = new.small }

-- the ceiling's sum over the first i segments
abbrev pub Summed : Table → List ℕ → ℕ → ℕ → Type 0
Summed t p i x = x ≡ 10_000 * sum t.resources (price_at p) + sum i (margin t p)

module _ {z : Size} {b d p : List ℕ} {r price : ℕ} (m : Trial z b d p r price) where
  abbrev new : List ℕ
  new = set p (r - 1) price

  abbrev t : Table
  t = priced_table z b d

  module _ {i j : ℕ} (inside : In z i j) (worth : 0 < get_or b (entry i j) 0) {c : ℕ} (old : c ≡ cost t p i j) where
    abbrev share : ℕ
    share = get_or d (use_entry i j r) 0

    change : cost t new i j + price_at p r * share ≡ c + price * share
    change =
        let room : z.resources ≤ length p = omega (arith, m.prices.places, m.sized.resources_to) in
        rw (old, ← share_is z b d i j r) (cost_moved t p r price m.resource_from m.resource_to room i j)

    pub move_fits : (c + price * share < 2 ^ 64) × (price_at p r * share ≤ c + price * share)
    move_fits =
        let low : price ≤ 2 ^ 41 = omega (arith, m.small) in
        let more = mul-le-mul low (m.sized.share_small i j r inside worth m.resource_from m.resource_to) in
        (omega (arith, cost_small m.sized m.prices inside worth), omega (arith, change))

    pub move_is : {x : ℕ} → x ≡ c + price * share - price_at p r * share → x ≡ cost t new i j
    move_is e = omega (arith, change)

  -- a strategy whose benefit is no more than what the best so far leaves changes nothing
  pub margin_passes : (i j : ℕ) {best : ℕ} → best ≡ most j (net t new i) → get_or b (entry i (j + 1)) 0 ≤ best → best ≡ most (j + 1) (net t new i)
  unfolding net
  margin_passes i j {best} e low =
      sym (max-eq_left (le_trans (sub-le (get_or b (entry i (j + 1)) 0) (cost t new i (j + 1))) low)) ∙ most_next j (net t new i) e

  pub margin_takes : (i j : ℕ) {best x y cost' : ℕ} → best ≡ most j (net t new i) → cost' ≡ cost t new i (j + 1) → y ≡ get_or b (entry i (j + 1)) 0 - cost' → x ≡ max best y → x ≡ most (j + 1) (net t new i)
  unfolding net
  margin_takes i j e q w v = v ∙ rw (w, q) (most_next j (net t new i) e)

  pub whole_fits : {x : ℕ} → x ≡ 10_000 * sum z.resources (price_at p) → (x + price * 10_000 < 2 ^ 64) × (price_at p r * 10_000 ≤ x + price * 10_000)
  whole_fits e =
      let room : z.resources ≤ length p = omega (arith, m.prices.places, m.sized.resources_to) in
      (omega (arith, m.small, m.sized.resources_to, prices_small m.prices z.resources), omega (arith, prices_moved t p r price m.resource_from m.resource_to room))

  pub summed_none : {x y : ℕ} → x ≡ 10_000 * sum z.resources (price_at p) → y ≡ x + price * 10_000 - price_at p r * 10_000 → Summed t new 0 y
  unfolding sum
  summed_none e q =
      let room : z.resources ≤ length p = omega (arith, m.prices.places, m.sized.resources_to) in
      omega (arith, prices_moved t p r price m.resource_from m.resource_to room)

  pub summed_next : (i : ℕ) {total x : ℕ} → Summed t new i total → x ≡ margin t new (i + 1) → Summed t new (i + 1) (total + x)
  summed_next i {total} e q = omega (arith, sum_next i (margin t new) refl)

  pub summed_early : (i : ℕ) {total present : ℕ} → Summed t new i total → i ≤ z.segments → present ≤ total → present ≡ min (ceiling_at t new) present
  unfolding ceiling_at
  summed_early i e h low = sym (min-eq_right (omega (arith, sum_more i z.segments (margin t new) h)))

  pub summed_all : (i : ℕ) {total : ℕ} → Summed t new i total → i ≡ z.segments → total ≡ ceiling_at t new
  unfolding ceiling_at
  summed_all i e q = e ∙ rw q

-- ---- costs that are brought to new prices one after another

module _ {z : Size} {b d new old c : List ℕ} where
  pub costs_held : {e : ℕ} → Costs z b d new old e c → {i j : ℕ} → In z i j → 0 < get_or b (entry i j) 0 → e ≤ entry i j → get_or c (entry i j) 0 ≡ cost (priced_table z b d) old i j
  costs_held {e} h {i} {j} inside worth le = h.costs i j inside worth ∙ rw (le-ltb (entry i j) e le)

  module _ {i j : ℕ} (inside : In z i j) (few : z.strategies ≤ most_strategies) (h : Costs z b d new old (entry i j) c) where
    costs_next : (e : List ℕ) → length e ≡ entries → (0 < get_or b (entry i j) 0 → get_or e (entry i j) 0 ≡ cost (priced_table z b d) new i j) → ((k : ℕ) → (k ≡ entry i j → ⊥) → get_or e k 0 ≡ get_or c k 0) → Costs z b d new old (entry i (j + 1)) e
    costs_next e long here there = record { places = long; costs = λ k l in' worth. go k l in' worth (eqb (entry k l) (entry i j)) refl }
      where
        go : (k l : ℕ) → In z k l → 0 < get_or b (entry k l) 0 → (x : Bool) → eqb (entry k l) (entry i j) ≡ x → get_or e (entry k l) 0 ≡ cost (priced_table z b d) (pick (ltb (entry k l) (entry i (j + 1))) new old) k l
        go k l in' worth true q =
            let at = eqb-true (entry k l) (entry i j) q in
            let same-i : k ≡ i = omega (arith, inside.segment_from, in'.segment_from, inside.strategy_to, in'.strategy_to, inside.strategy_from, in'.strategy_from) in
            let same-j : l ≡ j = omega (arith, inside.segment_from, in'.segment_from) in
            rw (lt-ltb (entry k l) (entry i (j + 1)) (omega arith), same-i, same-j) (here (rw (same-i, same-j) at worth))
        go k l in' worth false q =
            let ne = eqb-false (entry k l) (entry i j) q in
            there (entry k l) ne ∙ h.costs k l in' worth ∙ rw (leb_same (suc (entry k l)) (entry i j) (suc (entry k l)) (entry i (j + 1)) (λ lt. omega arith) (λ lt. omega (arith, ne)))

    pub costs_set : {x : ℕ} → i ≤ most_segments → x ≡ cost (priced_table z b d) new i j → Costs z b d new old (entry i (j + 1)) (set c (entry i j) x)
    costs_set {x} l e =
        costs_next (set c (entry i j) x) (length-set c (entry i j) x ∙ h.places)
        (λ _. get_or-set_same c (entry i j) x 0 (omega (arith, h.places, inside.strategy_to)) ∙ e)
        (λ k ne. get_or-set_other c (entry i j) k x 0 ne)

    pub costs_skip : get_or b (entry i j) 0 ≤ 0 → Costs z b d new old (entry i (j + 1)) c
    costs_skip none = costs_next c h.places (λ worth. absurd (omega arith)) (λ k ne. refl)
