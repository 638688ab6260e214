-- Laws of the price search: which price a step takes, and that prices stay below 2 ^ 41.
use Prim.Native.Nat.{ℕ, zero, suc, ◌+◌, ◌-◌, ◌*◌, ◌^◌, ◌≤◌, ◌<◌}
use mathlib.Core.Path.{◌≡◌, refl, sym, ◌∙◌}
use mathlib.Core.Bool.{true, false, ◌&&◌}
use mathlib.Core.List.{List}
use native.Mathlib.Nat.{zero-mul}
use native.Mathlib.Numerals.{add-one}
use native.Mathlib.Omega.{arith}
use borrow.Author.Tests.{le-ltb, le-leb, lt-leb}
use lib.Dec.{leb}
use lib.ListN.{get_or, length, set, replicate, length-set, length-replicate}
use lib.Pow.{pow_pos}
use lib.Seq.{get_or-set_other}
use Rattle.base.specs.Choice.{pick}
use Rattle.base.proofs.Choice.{pick_all}
use Rattle.base.proofs.Each.{each_replicate}
use Rattle.base.specs.Over.{sum, most}
use Rattle.base.proofs.Sums.{sum_cong, sum_zero, most_cong}
use Rattle.rules.specs.District.{most_resources}
use Rattle.rules.specs.Table.{Table}
use Rattle.rules.specs.Ceiling.{price_at, down_share, cost_by, cost, net, margin, raised, lowered, ceiling_at, lowers, priced, priced_all, prices_after}
use Rattle.laws.proofs.Give.{set_all}
use Rattle.tables.specs.Arrays.{entry, entry_at, entries}
use Rattle.tables.specs.declared.Size.{Size}
use Rattle.ceiling.specs.Prices.{priced_table, free, Prices, Costs, Headroom}

-- ---- which case a step takes

module _ (t : Table) (s : ℕ) (p : List ℕ) (r : ℕ) where
  pub priced_up : lowers t p (raised p r s) ≡ true → raised p r s ≡ priced t s p r
  unfolding priced
  priced_up h = rw h

  module _ (up : lowers t p (raised p r s) ≡ false) where
    pub priced_low : price_at p r < s → p ≡ priced t s p r
    unfolding priced
    priced_low l = rw (up, lt-leb s (price_at p r) l)

    pub priced_down : s ≤ price_at p r → pick (lowers t p (lowered p r s)) (lowered p r s) p ≡ priced t s p r
    unfolding priced
    priced_down l = rw (up, le-leb s (price_at p r) l)

-- what holds of each outcome of a step holds of the step
priced_all_lem : (P : List ℕ → Type 0) (t : Table) (s : ℕ) (p : List ℕ) (r : ℕ) → P (raised p r s) → P (lowered p r s) → P p → P (priced t s p r)
unfolding priced
priced_all_lem P t s p r up down same =
    pick_all P (lowers t p (raised p r s)) (raised p r s) _ up
    (pick_all P (leb s (price_at p r) && lowers t p (lowered p r s)) (lowered p r s) p down same)

-- ---- how far prices go

-- 16 prices up to m, and from place k on there is room for the step s
pub record Raisable (m s k : ℕ) (p : List ℕ) : Type 0 where
  pub places : length p ≡ most_resources
  pub small : (q : ℕ) → get_or p q 0 ≤ m
  pub room : (q : ℕ) → k ≤ q → get_or p q 0 + s ≤ m

raisable_set : (m s k : ℕ) (p : List ℕ) (v : ℕ) → Raisable m s k p → v ≤ m → Raisable m s (suc k) (set p k v)
raisable_set m s k p v h l =
    record {
      places = length-set p k v ∙ h.places;
      small = set_all (λ _ x. x ≤ m) p k v l h.small;
      room = λ q le. rw (get_or-set_other p k q v 0 (λ e. omega arith)) (h.room q (omega arith));
    }

priced_raisable : (t : Table) (m s k : ℕ) (p : List ℕ) → Raisable m s k p → Raisable m s (suc k) (priced t s p (suc k))
priced_raisable t m s k p h =
    let at : suc k - 1 ≡ k = omega arith in
    priced_all_lem (Raisable m s (suc k)) t s p (suc k)
    (rw at (raisable_set m s k p (get_or p k 0 + s) h (h.room k (omega arith))))
    (rw at (raisable_set m s k p (get_or p k 0 - s) h (omega (arith, h.small k))))
    (record { places = h.places; small = h.small; room = λ q le. h.room q (omega arith) })

all_raisable : (t : Table) (m s : ℕ) (p : List ℕ) → Raisable m s 0 p → (k : ℕ) → Raisable m s k (priced_all t s k p)
unfolding priced_all
all_raisable t m s p h zero = h
all_raisable t m s p h (suc k) = priced_raisable t m s k (priced_all t s k p) (all_raisable t m s p h k)

-- ---- a round, and the rounds

pub all_none : (t : Table) (s : ℕ) (p : List ℕ) → p ≡ priced_all t s 0 p
unfolding priced_all
all_none t s p = refl

pub all_next : (t : Table) (s : ℕ) (p : List ℕ) (k : ℕ) {q x : List ℕ} → q ≡ priced_all t s k p → x ≡ priced t s q (k + 1) → x ≡ priced_all t s (k + 1) p
unfolding priced_all
all_next t s p k e h = h ∙ rw (add-one, e)

pub after_none : (t : Table) → replicate most_resources 0 ≡ prices_after t 0
unfolding prices_after
after_none t = refl

pub after_next : (t : Table) (n : ℕ) {s : ℕ} {p x : List ℕ} → p ≡ prices_after t n → s ≡ 2 ^ (40 - n) → x ≡ priced_all t s t.resources p → x ≡ prices_after t (n + 1)
unfolding prices_after
after_next t n e q h = h ∙ rw (add-one, e, q)

halved : (n : ℕ) → n < 41 → 2 ^ (41 - n) ≡ 2 * 2 ^ (40 - n)
halved n h = let e : 41 - n ≡ suc (40 - n) = omega arith in rw e (omega arith)

zeros : (n k : ℕ) → ◌≡◌ {A = ℕ} (get_or (replicate n 0) k 0) 0
zeros n = each_replicate (λ x. x ≡ 0) 0 n 0 refl refl

-- before round n + 1 there is room for all the steps that are left
after_raisable : (t : Table) (n : ℕ) → n ≤ 41 → Raisable (2 ^ 41) (2 ^ (41 - n)) 0 (prices_after t n)
unfolding prices_after
after_raisable t zero h = record { places = refl; small = λ q. omega (arith, zeros most_resources q); room = λ q l. omega (arith, zeros most_resources q) }
after_raisable t (suc n) h =
    let e : 41 - suc n ≡ 40 - n = omega arith in
    let before : Raisable (2 ^ 41) (2 ^ (41 - n)) 0 (prices_after t n) = after_raisable t n (omega arith) in
    let start : Raisable (2 ^ 41 - 2 ^ (40 - n)) (2 ^ (40 - n)) 0 (prices_after t n) =
    record { places = before.places; small = λ q. omega (arith, before.room q (omega arith), halved n h); room = λ q l. omega (arith, before.room q l, halved n h) } in
    let done = all_raisable t (2 ^ 41 - 2 ^ (40 - n)) (2 ^ (40 - n)) (prices_after t n) start t.resources in
    rw e (record { places = done.places; small = λ q. omega (arith, done.small q); room = λ q l. omega (arith, done.small q, before.room q l, halved n h) })

-- for the code: at the start of a round, and at each resource in it
pub after_room : (t : Table) (n : ℕ) {s : ℕ} {p : List ℕ} → p ≡ prices_after t n → s ≡ 2 ^ (40 - n) → n < 41 → Headroom s p
after_room t n e q h =
    let before = after_raisable t n (omega arith) in
    rw e (record { places = before.places; room = λ k. omega (arith, before.room k (omega arith), halved n h, pow_pos (40 - n)) })

pub room_at : (t : Table) {s : ℕ} {p : List ℕ} {k : ℕ} {q : List ℕ} → Headroom s p → q ≡ priced_all t s k p → Raisable (2 ^ 41 - 1) s k q
room_at t {s} {p} {k} h e =
    rw e (all_raisable t (2 ^ 41 - 1) s p (record { places = h.places; small = λ q. omega (arith, h.room q); room = λ q l. omega (arith, h.room q) }) k)

-- at a resource of the round: room for its step
pub raisable_room : {p : List ℕ} {s r : ℕ} → Raisable (2 ^ 41 - 1) s r p → price_at p (r + 1) + s < 2 ^ 41
raisable_room {p} {s} {r} h = omega (arith, h.room (r + 1 - 1) (omega arith))

-- ---- the start: all prices are 0, so nothing costs anything

pub free_prices : Prices free
free_prices = record { places = length-replicate {A = ℕ} most_resources 0; small = λ k. omega (arith, zeros most_resources k) }

module _ (z : Size) (b d : List ℕ) where
  free_cost : (i j : ℕ) → cost (priced_table z b d) free i j ≡ 0
  unfolding cost cost_by
  free_cost i j =
      sum_cong z.resources (cost_by (priced_table z b d) free i j) (λ _. 0) (λ r l h. rw (zeros most_resources (r - 1)) (zero-mul (down_share (priced_table z b d) i j r)))
      ∙ sum_zero z.resources

  pub free_costs : Costs z b d free free 0 (replicate entries 0)
  free_costs =
      record {
        places = length-replicate {A = ℕ} entries 0;
        costs = λ i j inside some.
            let e = le-ltb (entry i j) 0 (omega arith) in
            zeros entries (entry i j) ∙ sym (rw e (free_cost i j));
      }

  pub free_margin_is : (i : ℕ) {x : ℕ} → x ≡ most z.strategies (entry_at b i) → x ≡ margin (priced_table z b d) free i
  unfolding margin net
  free_margin_is i e = e ∙ most_cong z.strategies (entry_at b i) (net (priced_table z b d) free i) (λ j l h. let none = free_cost i j in omega arith)

  pub free_ceiling_is : {x : ℕ} → x ≡ sum z.segments (margin (priced_table z b d) free) → x ≡ ceiling_at (priced_table z b d) free
  unfolding ceiling_at
  free_ceiling_is e =
      let none = sum_cong z.resources (price_at free) (λ _. 0) (λ r l h. zeros most_resources (r - 1)) ∙ sum_zero z.resources in
      omega arith
