-- What running sums give: tests of the limits where one segment moves or two, and the sums after a move.
use Prim.Native.Nat.{ℕ, ◌+◌, ◌-◌, ◌^◌, ◌≤◌, ◌<◌}
use mathlib.Core.Path.{◌≡◌, refl, sym}
use mathlib.Core.Bool.{Bool, true, false}
use Rattle.std.specs.Prelude.{IsTrue, ◌↔◌}
use mathlib.Core.List.{List, []}
use native.Mathlib.Omega.{arith}
use lib.Dec.{leb}
use lib.ListN.{get_or, length, length-set}
use Rattle.base.specs.Over.{all}
use Rattle.base.proofs.Choice.{leb_same}
use Rattle.base.proofs.Sums.{sum_part}
use Rattle.base.proofs.All.{all_at, all_cong, all_true}
use Rattle.rules.specs.District.{most_resources}
use Rattle.rules.specs.Phases.{strategy_at, give, chosen_usage, used, holds, within}
use Rattle.laws.proofs.Give.{kept, used_give, give_numbers}
use Rattle.tables.specs.declared.Size.{Size}
use Rattle.tables.specs.Arrays.{usage_at, limit_at, tables, Bounded, Chosen, Running}
use Rattle.tables.specs.Moves.{Budgets, Testable, room_for}
use Rattle.tables.proofs.Arrays.{limit_at_lem, used_le, usage_lt}

-- a resource's limit holds of programme e where its sum with what comes is no more than its budget, the limit with what goes
room_law : {z : Size} → Bounded z → (b u l sums e given : List ℕ) (more less : ℕ → ℕ)
    → ((r : ℕ) → 1 ≤ r → r ≤ z.resources → get_or given (r - 1) 0 ≡ get_or l (r - 1) 0 + less r)
    → ((r : ℕ) → 1 ≤ r → r ≤ z.resources → used (tables z b u l) e r + less r ≡ get_or sums (r - 1) 0 + more r)
    → all z.resources (λ r. leb (get_or sums (r - 1) 0 + more r) (get_or given (r - 1) 0)) ≡ within (tables z b u l) e
unfolding within holds
room_law {z} bounded b u l sums e given more less is h =
    all_cong z.resources (λ r. leb (get_or sums (r - 1) 0 + more r) (get_or given (r - 1) 0)) (λ r. leb (used (tables z b u l) e r) (limit_at l r))
    (λ r low high.
    let same = h r low high in
    let budget = is r low high in
    let limit = limit_at_lem l r low (omega (arith, bounded.resources)) in
    leb_same (get_or sums (r - 1) 0 + more r) (get_or given (r - 1) 0) (used (tables z b u l) e r) (limit_at l r)
    (λ q. omega arith)
    (λ q. omega arith))

module _ {z : Size} {u c sums : List ℕ} (running : Running z u c sums) where
  pub sums_le : (r : ℕ) → 1 ≤ r → r ≤ z.resources → get_or sums (r - 1) 0 ≤ 2 ^ 47
  sums_le r low high = omega (arith, running.sums_are [] [] r low high, used_le running.bounded running.uses [] [] c r)

  pub testable : {given : List ℕ} → length given ≡ most_resources → Testable z.resources sums given
  testable places =
      record {
        few = running.bounded.resources;
        sums_length = running.sums_length;
        sums_small = sums_le;
        budgets_length = places;
      }

  pub places : z.segments ≤ length c
  places = omega (arith, running.bounded.segments, running.chosen.places)

  -- one segment's move
  module _ (i a : ℕ) (low : 1 ≤ i) (high : i ≤ z.segments) (b l : List ℕ) where
    used_one : (r : ℕ) → used (tables z b u l) (give c i a) r + usage_at u i (strategy_at c i) r ≡ used (tables z b u l) c r + usage_at u i a r
    unfolding chosen_usage
    used_one r = used_give (tables z b u l) c i a low high places r

    pub one_fits : {given : List ℕ} → Budgets z.resources u l i (strategy_at c i) i 0 given → all z.resources (room_for u sums given i a i 0) ≡ within (tables z b u l) (give c i a)
    unfolding room_for
    one_fits {given} are =
        room_law running.bounded b u l sums (give c i a) given
        (λ r. usage_at u i a r + usage_at u i 0 r)
        (λ r. usage_at u i (strategy_at c i) r + usage_at u i 0 r)
        are.each
        (λ r lr hr. omega (arith, used_one r, running.sums_are b l r lr hr))

    -- a second segment's move
    module _ (k b₂ : ℕ) (above : i < k) (top : k ≤ z.segments) where
      used_two : (r : ℕ) → used (tables z b u l) (give (give c i a) k b₂) r + usage_at u k (strategy_at c k) r ≡ used (tables z b u l) (give c i a) r + usage_at u k b₂ r
      unfolding chosen_usage
      used_two r =
          let wide : z.segments ≤ length (give c i a) = simp length-set places in
          rw (kept c i a k low (omega arith) (λ e. omega arith)) at (used_give (tables z b u l) (give c i a) k b₂ (omega arith) top wide r)

      pub two_fits : {given : List ℕ} → Budgets z.resources u l i (strategy_at c i) k (strategy_at c k) given
          → all z.resources (room_for u sums given i a k b₂) ≡ within (tables z b u l) (give (give c i a) k b₂)
      unfolding room_for
      two_fits {given} are =
          room_law running.bounded b u l sums (give (give c i a) k b₂) given
          (λ r. usage_at u i a r + usage_at u k b₂ r)
          (λ r. usage_at u i (strategy_at c i) r + usage_at u k (strategy_at c k) r)
          are.each
          (λ r lr hr. omega (arith, used_one r, used_two r, running.sums_are b l r lr hr))

  -- a segment's new strategy, with the sums moved along
  module _ (i a : ℕ) (low : 1 ≤ i) (high : i ≤ z.segments) (number : a ≤ z.strategies) where
    chosen_give : Chosen z (give c i a)
    chosen_give =
        record { places = simp length-set running.chosen.places; numbers = give_numbers c i a z.strategies number running.chosen.numbers }

    -- what goes is in the sum, and what comes has room
    pub moves : (r : ℕ) → 1 ≤ r → r ≤ z.resources → (usage_at u i (strategy_at c i) r ≤ get_or sums (r - 1) 0) × (get_or sums (r - 1) 0 + usage_at u i a r < 2 ^ 64)
    unfolding used chosen_usage
    moves r lr hr =
        let whole = sum_part z.segments (λ n. usage_at u n (strategy_at c n) r) i low high in
        (omega (arith, whole, running.sums_are [] [] r lr hr), omega (arith, sums_le r lr hr, usage_lt running.uses i a r))

    pub running_give : {sums₂ : List ℕ} → length sums₂ ≡ most_resources
        → ((r : ℕ) → 1 ≤ r → r ≤ z.resources → get_or sums₂ (r - 1) 0 + usage_at u i (strategy_at c i) r ≡ get_or sums (r - 1) 0 + usage_at u i a r) → Running z u (give c i a) sums₂
    running_give long h =
        record {
          bounded = running.bounded;
          uses = running.uses;
          chosen = chosen_give;
          sums_length = long;
          sums_are = λ b l r lr hr. omega (arith, h r lr hr, running.sums_are b l r lr hr, used_one i a low high b l r);
        }

pub testable_part : (n m : ℕ) {sums given : List ℕ} → Testable n sums given → m ≤ n → Testable m sums given
testable_part n m test h =
    record {
      few = omega (arith, test.few);
      sums_length = test.sums_length;
      sums_small = λ r lr hr. test.sums_small r lr (omega arith);
      budgets_length = test.budgets_length;
    }

-- what `all` over the numbers below n answers, where the test is of the next number
pub all_is : (n : ℕ) (f : ℕ → Bool) (r : Bool) → IsTrue r ↔ ((k : ℕ) → k < n → f (k + 1) ≡ true) → r ≡ all n f
all_is n f true h =
    sym (all_true n f (λ k low high. let e : k - 1 + 1 ≡ k = omega arith in rw e at (h.0 refl (k - 1) (omega arith))))
all_is n f false h = go (all n f) refl
  where
    go : (x : Bool) → all n f ≡ x → false ≡ x
    go true e = h.1 (λ k under. all_at n f e (k + 1) (omega arith) (omega arith))
    go false e = refl
