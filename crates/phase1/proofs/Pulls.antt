-- Shares, surpluses and pulls that arrays hold, and the weakest segment by them.
use Prim.Native.Nat.{ℕ, ◌+◌, ◌-◌, ◌*◌, ◌^◌, ◌≤◌, ◌<◌}
use mathlib.Core.Path.{◌≡◌, refl, ap, ap₂, sym, ◌∙◌}
use mathlib.Core.Bool.{Bool, true, false}
use mathlib.Core.List.{List, [], map}
use Rattle.std.proofs.Common.{IsTrue, ◌↔◌}
use native.Mathlib.Nat.{mul-le-mul}
use native.Mathlib.Omega.{arith}
use borrow.Author.Tests.{le-leb, lt-leb, leb-true}
use lib.ListN.{get_or, length, take, length-take}
use lib.Seq.{get_or-take}
use Rattle.std.specs.Bool.{MatchBool}
use Rattle.std.specs.List.{zip, AllWithin, HoldsAt, sum_by, sum as list_sum}
use Rattle.std.proofs.lemmas.List.{take_all, get_or_default}
use Rattle.std.proofs.lemmas.List.Sums.{sum-map}
use Rattle.std.proofs.lemmas.Slice.Zip.{length-zip, get_or-zip}
use lib.Dec.{leb}
use Rattle.base.specs.Choice.{pick}
use Rattle.base.specs.Over.{sum}
use Rattle.base.proofs.Choice.{pick_all}
use Rattle.base.proofs.Sums.{sum_part, sum_bound, sum_cong}
use Rattle.rules.specs.District.{most_segments, most_resources}
use Rattle.rules.specs.Phases.{strategy_at, give, chosen_usage, used, holds, within, chosen_share, surplus, pull_by, pull}
use Rattle.laws.proofs.Give.{given, sum_give}
use Rattle.tables.specs.declared.Size.{Size}
use Rattle.tables.specs.Arrays.{use_entry, limit_at, tables, Uses, Limits, Bounded, Chosen, Running, Cell}
use Rattle.tables.proofs.Moves.{all_is}
use Rattle.tables.proofs.Arrays.{limit_at_lem, usage_at_lem, cell_of, front_sum}
use Rattle.phase1.specs.Reduce.{share_at, ShareSums, held_share, row_pull, Shares, Within, Summable, Measured, Surpluses}

-- ---- bounds

module _ {most : ℕ} {z : Size} {s c : List ℕ} (held : Within most z s c) where
  pub sums_le : (r : ℕ) → 1 ≤ r → r ≤ z.resources → sum z.segments (held_share s c r) ≤ most_segments * most
  sums_le r lr hr =
      let each = sum_bound z.segments most (held_share s c r) (λ i li hi. held.small i r li hi lr hr) in
      let all : z.segments * most ≤ most_segments * most = mul-le-mul {n₁ = z.segments} {m₁ = most} {n₂ = most_segments} {m₂ = most} held.bounded.segments (omega arith) in
      omega arith

-- segment i + 1 has an entry for its strategy
pub cell_held : {most : ℕ} {z : Size} {s c : List ℕ} → Within most z s c → (i : ℕ) → i < z.segments → Cell (i + 1) (get_or c i 0)
cell_held {most} {z} {s} {c} held i h =
    let at : i + 1 - 1 ≡ i = omega arith in
    cell_of held.bounded (i + 1) (get_or c i 0) (omega arith) (omega arith) (rw at at (held.chosen.numbers (i + 1)))

pub measured_summable : {z : Size} {s c : List ℕ} → Measured z s c → Summable z s c
measured_summable measured =
    record { bounded = measured.bounded; chosen = measured.chosen; small = λ i r li hi lr hr. omega (arith, measured.small i r li hi lr hr) }

pub pull_le : (row over : List ℕ) (m : ℕ) → m ≤ most_resources → ((r : ℕ) → 1 ≤ r → r ≤ m → get_or row (r - 1) 0 ≤ 10_000) → ((r : ℕ) → 1 ≤ r → r ≤ m → get_or over (r - 1) 0 ≤ 640_000)
    → (n : ℕ) → n ≤ m → sum n (row_pull row over) ≤ 102_400_000_000
pull_le row over m few small surplus-small n h =
    let each = sum_bound n 6_400_000_000 (row_pull row over)
    (λ r lr hr. mul-le-mul {n₁ = get_or row (r - 1) 0} {m₁ = get_or over (r - 1) 0} {n₂ = 10_000} {m₂ = 640_000} (small r lr (omega arith)) (surplus-small r lr (omega arith))) in
    omega arith

-- the first n of a list and another as pairs
module _ (xs ys : List ℕ) (n : ℕ) (xs_long : n ≤ length xs) (ys_long : n ≤ length ys) where
  pairs_long : length (zip (take n xs) ys) ≡ n
  pairs_long = omega (arith, length-zip (take n xs) ys, length-take n xs)

  pair_at : (k : ℕ) (d : ℕ × ℕ) → k < n → get_or (zip (take n xs) ys) k d ≡ (get_or xs k d.0, get_or ys k d.1)
  pair_at k d h = get_or-zip (take n xs) ys k d (omega (arith, length-take n xs)) (omega arith) ∙ rw (get_or-take n xs k d.0 h)

-- a row of shares and the surpluses as pairs
module _ (row over : List ℕ) (n : ℕ) (few : n ≤ most_resources) (row_long : length row ≡ most_resources) (over_long : length over ≡ most_resources) where
  abbrev pub weights : List (ℕ × ℕ)
  weights = zip (take n row) over

  weights_long : length weights ≡ n
  weights_long = pairs_long row over n (omega arith) (omega arith)

  weight_at : (k : ℕ) (d : ℕ × ℕ) → k < n → get_or weights k d ≡ (get_or row k d.0, get_or over k d.1)
  weight_at = pair_at row over n (omega arith) (omega arith)

  pub weight_small : ((r : ℕ) → 1 ≤ r → r ≤ n → get_or row (r - 1) 0 ≤ 10_000) → ((r : ℕ) → 1 ≤ r → r ≤ n → get_or over (r - 1) 0 ≤ 640_000)
      → (k : ℕ) (p : ℕ × ℕ) → k < length weights → p ≡ get_or weights k p → (p.0 ≤ 10_000) × (p.1 ≤ 640_000) × (p.0 * p.1 ≤ 6_400_000_000)
  weight_small small surplus-small k p h e =
      let at : k + 1 - 1 ≡ k = omega arith in
      let inside : k < n = omega (arith, weights_long) in
      let is : p ≡ (get_or row k 0, get_or over k 0) = e ∙ get_or_default weights k p (0, 0) h ∙ weight_at k (0, 0) inside in
      let first : p.0 ≤ 10_000 = omega (arith, ap (λ (q : ℕ × ℕ). q.0) is, rw at at (small (k + 1) (omega arith) (omega arith))) in
      let second : p.1 ≤ 640_000 = omega (arith, ap (λ (q : ℕ × ℕ). q.1) is, rw at at (surplus-small (k + 1) (omega arith) (omega arith))) in
      (first, second, mul-le-mul {n₁ = p.0} {m₁ = p.1} {n₂ = 10_000} {m₂ = 640_000} first second)

  pub weights_sum : list_sum (map (λ (p : ℕ × ℕ). p.0 * p.1) weights) ≡ sum n (row_pull row over)
  weights_sum =
      sum-map (λ (p : ℕ × ℕ). p.0 * p.1) weights
      ∙ ap (sum_by (λ (p : ℕ × ℕ). p.0 * p.1)) (sym (take_all n weights (omega (arith, weights_long))))
      ∙ front_sum (λ (p : ℕ × ℕ). p.0 * p.1) weights (0, 0) (row_pull row over) n (omega (arith, weights_long))
      (λ k h. let at : k + 1 - 1 ≡ k = omega arith in rw (weight_at k (0, 0) h, at))

-- ---- sums of uses

module _ {z : Size} {u c : List ℕ} (bounded : Bounded z) (uses : Uses u) (chosen : Chosen z c) where
  pub uses_summable : Summable z u c
  uses_summable = record { bounded = bounded; chosen = chosen; small = λ i r li hi lr hr. omega (arith, uses.small (use_entry i (strategy_at c i) r)) }

  pub uses_running : {sums : List ℕ} → length sums ≡ most_resources → ShareSums z u c sums → Running z u c sums
  unfolding used chosen_usage
  uses_running long are =
      record {
        bounded = bounded;
        uses = uses;
        chosen = chosen;
        sums_length = long;
        sums_are = λ b l r lr hr.
            are.each r lr hr
            ∙ sum_cong z.segments (held_share u c r) (chosen_usage (tables z b u l) c r)
            (λ i li hi. usage_at_lem uses i (strategy_at c i) r (cell_of bounded i (strategy_at c i) li hi (chosen.numbers i)) lr (omega (arith, bounded.resources)));
      }

-- ---- what arrays of shares and surpluses say of a table

module _ {z : Size} {b u l s : List ℕ} (shares : Shares z b u l s) {c : List ℕ} (chosen : Chosen z c) where
  share_is : (i r : ℕ) → 1 ≤ i → i ≤ z.segments → 1 ≤ r → r ≤ z.resources → held_share s c r i ≡ chosen_share (tables z b u l) c r i
  unfolding chosen_share
  share_is i r li hi lr hr = shares.shares_are i (strategy_at c i) r li hi (chosen.numbers i) lr hr

  chosen_shares_are : (r : ℕ) → 1 ≤ r → r ≤ z.resources → sum z.segments (held_share s c r) ≡ sum z.segments (chosen_share (tables z b u l) c r)
  chosen_shares_are r lr hr = sum_cong z.segments (held_share s c r) (chosen_share (tables z b u l) c r) (λ i li hi. share_is i r li hi lr hr)

  -- a row of shares gives a segment's pull
  pub pull_sum : {over : List ℕ} (row : List ℕ) → Surpluses (tables z b u l) c over → (i : ℕ) → 1 ≤ i → i ≤ z.segments → z.resources ≤ most_resources
      → ((r : ℕ) → 1 ≤ r → r ≤ most_resources → get_or row (r - 1) 0 ≡ share_at s i (strategy_at c i) r)
      → {v : ℕ} → v ≡ sum z.resources (row_pull row over) → v ≡ pull (tables z b u l) c i
  unfolding pull pull_by
  pull_sum {over} row is i li hi few at e =
      e ∙ sum_cong z.resources (row_pull row over) (pull_by (tables z b u l) c i)
      (λ r lr hr. rw (at r lr (omega arith), share_is i r li hi lr hr, is.surplus_is r lr hr))

-- ---- the limits, by the running sums

module _ {z : Size} {u c sums : List ℕ} (running : Running z u c sums) (b l : List ℕ) where
  module _ (r : ℕ) (lr : 1 ≤ r) (hr : r ≤ z.resources) where
    limit_is : limit_at l r ≡ get_or l (r - 1) 0
    limit_is = limit_at_lem l r lr (omega (arith, running.bounded.resources))

    limit_holds : get_or sums (r - 1) 0 ≤ get_or l (r - 1) 0 → holds (tables z b u l) c r ≡ true
    unfolding holds
    limit_holds h = le-leb (used (tables z b u l) c r) (limit_at l r) (omega (arith, limit_is, running.sums_are b l r lr hr))

    limit_fails : get_or l (r - 1) 0 < get_or sums (r - 1) 0 → holds (tables z b u l) c r ≡ false
    unfolding holds
    limit_fails h = lt-leb (used (tables z b u l) c r) (limit_at l r) (omega (arith, limit_is, running.sums_are b l r lr hr))

    surplus_none : get_or sums (r - 1) 0 ≤ get_or l (r - 1) 0 → surplus (tables z b u l) c r ≡ 0
    unfolding surplus
    surplus_none h = rw (limit_holds h)

    surplus_some : get_or l (r - 1) 0 < get_or sums (r - 1) 0 → surplus (tables z b u l) c r ≡ sum z.segments (chosen_share (tables z b u l) c r) - 10_000
    unfolding surplus
    surplus_some h = rw (limit_fails h)

  -- what a test of each limit answers
  pub within_is : {r : Bool} → IsTrue r ↔ ((k : ℕ) → k < z.resources → get_or sums k 0 ≤ get_or l k 0) → r ≡ within (tables z b u l) c
  unfolding within holds
  within_is {r} test = all_is z.resources (holds (tables z b u l) c) r ((λ t k h. to k h (test.0 t k h)), (λ each. test.1 (λ k h. from k h (each k h))))
    where
      to : (k : ℕ) → k < z.resources → get_or sums k 0 ≤ get_or l k 0 → holds (tables z b u l) c (k + 1) ≡ true
      to k h le = let here : k + 1 - 1 ≡ k = omega arith in limit_holds (k + 1) (omega arith) (omega arith) (rw here le)

      from : (k : ℕ) → k < z.resources → holds (tables z b u l) c (k + 1) ≡ true → get_or sums k 0 ≤ get_or l k 0
      from k h e =
          let here : k + 1 - 1 ≡ k = omega arith in
          let le = leb-true (used (tables z b u l) c (k + 1)) (limit_at l (k + 1)) e in
          omega (arith, limit_is (k + 1) (omega arith) (omega arith), running.sums_are b l (k + 1) (omega arith) (omega arith), ap (λ (i : ℕ). get_or sums i 0) here, ap (λ (i : ℕ). get_or l i 0) here)

  -- by the sums and the limits as pairs
  module _ (limits : Limits l) where
    paired : length (zip (take z.resources sums) l) ≡ z.resources
    paired = pairs_long sums l z.resources (omega (arith, running.bounded.resources, running.sums_length)) (omega (arith, running.bounded.resources, limits.places))

    two_at : (k : ℕ) → k < z.resources → get_or (zip (take z.resources sums) l) k (0, 0) ≡ (get_or sums k 0, get_or l k 0)
    two_at k = pair_at sums l z.resources (omega (arith, running.bounded.resources, running.sums_length)) (omega (arith, running.bounded.resources, limits.places)) k (0, 0)

    pub within_zip : (r : Bool)
        → MatchBool r (AllWithin (λ (p : ℕ × ℕ). p.0 ≤ p.1) (zip (take z.resources sums) l) 0 (length (zip (take z.resources sums) l)))
        ((k : ℕ) × (k < length (zip (take z.resources sums) l)) × HoldsAt (λ (p : ℕ × ℕ). p.1 < p.0) (zip (take z.resources sums) l) k)
        → r ≡ within (tables z b u l) c
    within_zip true each = within_is ((λ t k h. rw two_at at (each k (0, 0) (omega arith) (omega (arith, paired)))), (λ h. refl))
    within_zip false some =
        let inside : some.0 < z.resources = omega (arith, some.1, paired) in
        within_is ((λ t. absurd cc), (λ h. absurd (omega (arith, h some.0 inside, rw two_at at (some.2 (0, 0))))))

-- ---- a surplus: 0 where the limit holds, else what the shares are beyond 10,000

module _ {z : Size} {b u l s c : List ℕ} (shares : Shares z b u l s) (measured : Measured z s c) (r : ℕ) (lr : 1 ≤ r) (hr : r ≤ z.resources) where
  pub no_surplus : {sums : List ℕ} → Running z u c sums → get_or sums (r - 1) 0 ≤ get_or l (r - 1) 0 → 0 ≡ surplus (tables z b u l) c r
  no_surplus running h = sym (surplus_none running b l r lr hr h)

  pub some_surplus : {sums : List ℕ} → Running z u c sums → get_or l (r - 1) 0 < get_or sums (r - 1) 0 → {all v : ℕ} → all ≡ sum z.segments (held_share s c r) → v ≡ all - 10_000 → v ≡ surplus (tables z b u l) c r
  some_surplus running h sums-up e = omega (arith, surplus_some running b l r lr hr h, chosen_shares_are shares measured.chosen r lr hr)

  pub surplus_le : surplus (tables z b u l) c r ≤ 640_000
  unfolding surplus
  surplus_le =
      pick_all (λ (n : ℕ). n ≤ 640_000) (holds (tables z b u l) c r) 0 (sum z.segments (chosen_share (tables z b u l) c r) - 10_000) (omega arith)
      (omega (arith, sums_le measured r lr hr, chosen_shares_are shares measured.chosen r lr hr))

-- ---- a segment's pull, whatever the uses are that have these shares and sums

module _ {z : Size} {b l s c sums : List ℕ} {u v : List ℕ} (shares : Shares z b u l s) (running : Running z u c sums) (shares₂ : Shares z b v l s) (running₂ : Running z v c sums) where
  module _ (r : ℕ) (lr : 1 ≤ r) (hr : r ≤ z.resources) where
    share_same : (i : ℕ) → 1 ≤ i → i ≤ z.segments → chosen_share (tables z b u l) c r i ≡ chosen_share (tables z b v l) c r i
    share_same i li hi = sym (share_is shares running.chosen i r li hi lr hr) ∙ share_is shares₂ running₂.chosen i r li hi lr hr

    holds_same : holds (tables z b u l) c r ≡ holds (tables z b v l) c r
    unfolding holds
    holds_same = ap (λ (n : ℕ). leb n (limit_at l r)) (sym (running.sums_are b l r lr hr) ∙ running₂.sums_are b l r lr hr)

    surplus_same : surplus (tables z b u l) c r ≡ surplus (tables z b v l) c r
    unfolding surplus
    surplus_same =
        ap₂ (λ (h : Bool) (n : ℕ). pick h 0 (n - 10_000)) holds_same
        (sum_cong z.segments (chosen_share (tables z b u l) c r) (chosen_share (tables z b v l) c r) share_same)

  pub pull_same : (i : ℕ) → 1 ≤ i → i ≤ z.segments → pull (tables z b u l) c i ≡ pull (tables z b v l) c i
  unfolding pull pull_by
  pull_same i li hi =
      sum_cong z.resources (pull_by (tables z b u l) c i) (pull_by (tables z b v l) c i)
      (λ r lr hr. ap₂ ◌*◌ (share_same r lr hr i li hi) (surplus_same r lr hr))

-- ---- the sums of shares, step by step

module _ {z : Size} {s c held : List ℕ} (measured : Measured z s c) (are : ShareSums z s c held) (i a : ℕ) (li : 1 ≤ i) (hi : i ≤ z.segments) where
  room : z.segments ≤ length c
  room = omega (arith, measured.bounded.segments, measured.chosen.places)

  -- segment i's next share is as small as those of the programme that has it
  pub share_moves : Measured z s (give c i a) → (r : ℕ) → 1 ≤ r → r ≤ z.resources → (share_at s i (strategy_at c i) r ≤ get_or held (r - 1) 0) × (get_or held (r - 1) 0 + share_at s i a r < 2 ^ 64)
  share_moves next r lr hr =
      let new : held_share s (give c i a) r i ≡ share_at s i a r = ap (λ (j : ℕ). share_at s i j r) (given c i a li (omega (arith, room))) in
      (rw (are.each r lr hr) (sum_part z.segments (held_share s c r) i li hi), omega (arith, are.each r lr hr, sums_le measured r lr hr, new, next.small i r li hi lr hr))

  pub shares_moved : {v : List ℕ} → ((r : ℕ) → 1 ≤ r → r ≤ z.resources → get_or v (r - 1) 0 + share_at s i (strategy_at c i) r ≡ get_or held (r - 1) 0 + share_at s i a r) → ShareSums z s (give c i a) v
  shares_moved h =
      record { each = λ r lr hr. omega (arith, h r lr hr, are.each r lr hr, sum_give (tables z [] [] []) c i a li hi room (λ k j. share_at s k j r)) }
