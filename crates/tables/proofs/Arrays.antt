-- What arrays that hold a table give: its entries at their places, and bounds.
use Prim.Native.Nat.{ℕ, zero, suc, ◌+◌, ◌-◌, ◌*◌, ◌^◌, ◌≤◌, ◌<◌}
use mathlib.Core.Path.{◌≡◌, refl, ◌∙◌}
use mathlib.Core.Bool.{◌&&◌, and-false}
use mathlib.Core.List.{List, map}
use Rattle.std.specs.List.{sum as list_sum, sum_by, range_with_len}
use Rattle.std.proofs.lemmas.List.FromFn.{sum_by-map-range_with_len_more}
use Rattle.std.proofs.lemmas.List.Sums.{sum_by_more}
use native.Mathlib.Omega.{arith}
use native.Mathlib.Numerals.{add-one}
use lib.Dec.{lit<}
use lib.ListN.{get_or, length, take}
use Rattle.base.specs.Over.{sum, between}
use Rattle.base.proofs.Choice.{pick_all, between_yes}
use Rattle.base.proofs.Sums.{sum_bound}
use Rattle.rules.specs.District.{most_segments, most_strategies, most_resources}
use Rattle.rules.specs.Phases.{strategy_at, chosen_benefit, total, chosen_usage, used}
use Rattle.tables.specs.declared.Size.{Size}
use Rattle.tables.specs.Arrays.{entry, use_entry, benefit_at, usage_at, limit_at, tables, Benefits, Uses, Bounded, Cell}

-- ---- what an array holds is the table's entry

pub benefit_at_lem : {b : List ℕ} → Benefits b → (i j : ℕ) → Cell i j → get_or b (entry i j) 0 ≡ benefit_at b i j
unfolding benefit_at
benefit_at_lem held i zero cell = rw (between_yes 1 most_segments i cell.low cell.high) (held.nothing i cell.low cell.high)
benefit_at_lem held i (suc j) cell = rw (between_yes 1 most_segments i cell.low cell.high, between_yes 1 most_strategies (suc j) (omega arith) cell.number)

pub usage_at_lem : {u : List ℕ} → Uses u → (i j r : ℕ) → Cell i j → 1 ≤ r → r ≤ most_resources → get_or u (use_entry i j r) 0 ≡ usage_at u i j r
unfolding usage_at
usage_at_lem held i zero r cell l h = rw (between_yes 1 most_segments i cell.low cell.high) (held.nothing i r cell.low cell.high l h)
usage_at_lem held i (suc j) r cell l h =
    rw (between_yes 1 most_segments i cell.low cell.high, between_yes 1 most_strategies (suc j) (omega arith) cell.number, between_yes 1 most_resources r l h)

pub limit_at_lem : (l : List ℕ) (r : ℕ) → 1 ≤ r → r ≤ most_resources → limit_at l r ≡ get_or l (r - 1) 0
unfolding limit_at
limit_at_lem l r low high = rw (between_yes 1 most_resources r low high)

-- nothing has no benefit and uses nothing
pub benefit_nothing : (b : List ℕ) (i : ℕ) → benefit_at b i 0 ≡ 0
unfolding benefit_at
benefit_nothing b i = rw (and-false (between 1 most_segments i))

pub usage_nothing : (u : List ℕ) (i r : ℕ) → usage_at u i 0 r ≡ 0
unfolding usage_at
usage_nothing u i r = rw (and-false (between 1 most_segments i))

-- ---- bounds

pub benefit_lt : {b : List ℕ} → Benefits b → (i j : ℕ) → benefit_at b i j < 2 ^ 40
unfolding benefit_at
benefit_lt {b} held i j =
    pick_all (λ (n : ℕ). n < 2 ^ 40) (between 1 most_segments i && between 1 most_strategies j) (get_or b (entry i j) 0) 0 (held.small (entry i j)) (lit< tt)

pub usage_lt : {u : List ℕ} → Uses u → (i j r : ℕ) → usage_at u i j r < 2 ^ 41
unfolding usage_at
usage_lt {u} held i j r =
    pick_all (λ (n : ℕ). n < 2 ^ 41) (between 1 most_segments i && (between 1 most_strategies j && between 1 most_resources r)) (get_or u (use_entry i j r) 0) 0 (held.small (use_entry i j r)) (lit< tt)

-- the benefit of the first n segments, and what they use of resource r
pub benefits_le : {b : List ℕ} → Benefits b → (c : List ℕ) (n : ℕ) → sum n (λ i. benefit_at b i (strategy_at c i)) ≤ n * 2 ^ 40
benefits_le {b} held c n =
    sum_bound n (2 ^ 40) (λ i. benefit_at b i (strategy_at c i)) (λ i low high. let h = benefit_lt held i (strategy_at c i) in omega arith)

uses_le : {u : List ℕ} → Uses u → (c : List ℕ) (r n : ℕ) → n ≤ most_segments → sum n (λ i. usage_at u i (strategy_at c i) r) ≤ 2 ^ 47
uses_le {u} held c r n few =
    let each = sum_bound n (2 ^ 41) (λ i. usage_at u i (strategy_at c i) r) (λ i low high. let h = usage_lt held i (strategy_at c i) r in omega arith) in
    omega arith

module _ {z : Size} (bounded : Bounded z) where
  pub cell_of : (i j : ℕ) → 1 ≤ i → i ≤ z.segments → j ≤ z.strategies → Cell i j
  cell_of i j low high number =
      record { low = low; high = omega (arith, bounded.segments); number = omega (arith, bounded.strategies) }

  pub total_le : {b : List ℕ} → Benefits b → (u l c : List ℕ) → total (tables z b u l) c ≤ 2 ^ 46
  unfolding total chosen_benefit
  total_le held u l c = omega (arith, benefits_le held c z.segments, bounded.segments)

  pub used_le : {u : List ℕ} → Uses u → (b l c : List ℕ) (r : ℕ) → used (tables z b u l) c r ≤ 2 ^ 47
  unfolding used chosen_usage
  used_le held b l c r = uses_le held c r z.segments bounded.segments

-- what a range of numbers is taken to, summed
pub range_sum : (n : ℕ) (f : ℕ → ℕ) → list_sum (map (λ k. f (k + 1)) (range_with_len 0 n)) ≡ sum n f
unfolding sum
range_sum zero f = refl
range_sum (suc n) f =
    rw add-one at (sum_by-map-range_with_len_more (λ (x : ℕ). x) (λ (k : ℕ). f (k + 1)) 0 n n (omega arith)) ∙ rw (range_sum n f)

-- the sum over the front of a list, where f k is what is taken of its k-th entry
module _ {X : Type 0} (taken : X → ℕ) (xs : List X) (d : X) (f : ℕ → ℕ) where
  pub front_sum : (n : ℕ) → n ≤ length xs → ((k : ℕ) → k < n → taken (get_or xs k d) ≡ f (k + 1)) → sum_by taken (take n xs) ≡ sum n f
  unfolding sum
  front_sum zero h each = refl
  front_sum (suc n) h each =
      rw add-one at (sum_by_more taken xs n d (omega arith)) ∙ rw (front_sum n (omega arith) (λ k l. each k (omega arith)), each n (omega arith), add-one)
