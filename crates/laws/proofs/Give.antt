-- What a segment's new strategy does to a programme, its total and its uses.
use Prim.Native.Nat.{ℕ, zero, suc, ◌+◌, ◌-◌, ◌≤◌}
use mathlib.Core.Path.{◌≡◌, ap}
use mathlib.Core.List.{List, [], ◌∷◌}
use mathlib.Core.Bool.{true}
use native.Mathlib.Omega.{arith}
use borrow.Author.Tests.{le-leb, leb-true}
use lib.ListN.{get_or, length, set}
use lib.Seq.{get_or-set_same, get_or-set_other}
use Rattle.base.specs.Over.{sum}
use Rattle.base.proofs.All.{all_true, all_at}
use Rattle.base.proofs.Sums.{sum_change}
use Rattle.rules.specs.Table.{Table}
use Rattle.rules.specs.Phases.{strategy_at, give, chosen_benefit, total, chosen_usage, used, holds, within}

pub given : (c : List ℕ) (i j : ℕ) → 1 ≤ i → i ≤ length c → strategy_at (give c i j) i ≡ j
given c i j l h = get_or-set_same c (i - 1) j 0 (omega arith)

pub kept : (c : List ℕ) (i j k : ℕ) → 1 ≤ i → 1 ≤ k → (k ≡ i → ⊥) → strategy_at (give c i j) k ≡ strategy_at c k
kept c i j k l m ne = get_or-set_other c (i - 1) (k - 1) j 0 (λ e. ne (omega arith))

-- what holds of each number at its place, and of the new one at its own, still holds
pub set_all : (P : ℕ → ℕ → Type 0) (l : List ℕ) (n v : ℕ) → P n v → ((k : ℕ) → P k (get_or l k 0)) → (k : ℕ) → P k (get_or (set l n v) k 0)
set_all P [] n v h before k = before k
set_all P (x ∷ l) zero v h before zero = h
set_all P (x ∷ l) zero v h before (suc k) = before (suc k)
set_all P (x ∷ l) (suc n) v h before zero = before 0
set_all P (x ∷ l) (suc n) v h before (suc k) = set_all (λ m. P (suc m)) l n v h (λ m. before (suc m)) k

-- a bound on the strategy numbers stays
pub give_numbers : (c : List ℕ) (i j s : ℕ) → j ≤ s → ((k : ℕ) → strategy_at c k ≤ s) → (k : ℕ) → strategy_at (give c i j) k ≤ s
give_numbers c i j s h before k = set_all (λ _ x. x ≤ s) c (i - 1) j h (λ m. rw (← add_sub m) (before (m + 1))) (k - 1)
  where
    add_sub : (m : ℕ) → m + 1 - 1 ≡ m
    add_sub m = omega arith

module _ (t : Table) (c : List ℕ) (i j : ℕ) (l : 1 ≤ i) (h : i ≤ t.segments) (room : t.segments ≤ length c) where
  -- what a sum over the segments loses and gains
  pub sum_give : (f : ℕ → ℕ → ℕ) → sum t.segments (λ k. f k (strategy_at (give c i j) k)) + f i (strategy_at c i) ≡ sum t.segments (λ k. f k (strategy_at c k)) + f i j
  sum_give f =
      let new : f i (strategy_at (give c i j) i) ≡ f i j = ap (f i) (given c i j l (omega arith)) in
      let moved = sum_change t.segments (λ k. f k (strategy_at (give c i j) k)) (λ k. f k (strategy_at c k)) i l h (λ k lk hk ne. ap (f k) (kept c i j k l lk ne)) in
      omega arith

  pub total_give : total t (give c i j) + chosen_benefit t c i ≡ total t c + t.benefit i j
  unfolding total chosen_benefit
  total_give = sum_give t.benefit

  pub used_give : (r : ℕ) → used t (give c i j) r + chosen_usage t c r i ≡ used t c r + t.usage i j r
  unfolding used chosen_usage
  used_give r = sum_give (λ k m. t.usage k m r)

-- a programme that uses no more is within the limits too
pub within_less : (t : Table) (c e : List ℕ) → ((r : ℕ) → used t e r ≤ used t c r) → within t c ≡ true → within t e ≡ true
unfolding within holds
within_less t c e less w =
    all_true t.resources (holds t e)
    (λ r l h. le-leb (used t e r) (t.limit r) (omega (arith, less r, leb-true (used t c r) (t.limit r) (all_at t.resources (holds t c) w r l h))))
