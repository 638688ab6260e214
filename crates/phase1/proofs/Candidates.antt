-- The candidates of a segment in the order of the searches, and the programme of the top ones.
use Prim.Native.Nat.{ℕ, zero, suc, ◌+◌, ◌-◌, ◌≤◌, ◌<◌}
use mathlib.Core.Path.{◌≡◌, refl, sym, ◌∙◌}
use mathlib.Core.Bool.{Bool, true, false, ◌&&◌, ◌||◌, and-true}
use mathlib.Core.List.{List}
use native.Mathlib.Omega.{arith}
use borrow.Author.Tests.{ltb-true, lt-ltb, leb-true, leb-false}
use lib.Dec.{leb, ltb, eqb}
use lib.ListN.{length, get_or-eq_default}
use lib.Seq.{ext_get_or}
use Rattle.std.proofs.lemmas.Bool.{and_parts}
use Rattle.base.proofs.Best.{best_le, best_cong, Leads, leads_none, leads_taken, leads_kept}
use Rattle.base.proofs.Listed.{listed_length}
use Rattle.rules.specs.District.{most_segments}
use Rattle.rules.specs.Table.{Table}
use Rattle.rules.specs.Phases.{strategy_at, is_candidate, greater, comes_after, top_candidate, next_candidate, bests}
use Rattle.laws.proofs.Steps.{bests_at}
use Rattle.tables.specs.declared.Size.{Size}
use Rattle.tables.specs.Arrays.{benefit_at, tables, Chosen}
use Rattle.tables.proofs.Arrays.{benefit_nothing}
use Rattle.phase1.specs.Reduce.{best_passing}

-- ---- the candidates of which a test holds, in the order of the search

abbrev pub passing : List ℕ → ℕ → (ℕ → Bool) → ℕ → Bool
passing b i p k = ltb 0 (benefit_at b i k) && p k

module _ (b : List ℕ) (i : ℕ) (p : ℕ → Bool) where
  pub passing_none : Leads (passing b i p) (benefit_at b i) 0 0 0
  passing_none = leads_none (passing b i p) (benefit_at b i) (benefit_nothing b i) (λ k e. ltb-true 0 (benefit_at b i k) (and_parts (ltb 0 (benefit_at b i k)) (p k) e).0)

  -- a turn: strategy n + 1 has the benefit `value`
  module _ {n top most : ℕ} (leads : Leads (passing b i p) (benefit_at b i) n top most) {value : ℕ} (is : value ≡ benefit_at b i (n + 1)) where
    pub passing_taken : most < value → p (n + 1) ≡ true → Leads (passing b i p) (benefit_at b i) (n + 1) (n + 1) value
    passing_taken h e = leads_taken (passing b i p) (benefit_at b i) n top most leads is (rw (lt-ltb 0 (benefit_at b i (n + 1)) (omega arith)) e) h

    pub passing_kept : value ≤ most → Leads (passing b i p) (benefit_at b i) (n + 1) top most
    passing_kept h = leads_kept (passing b i p) (benefit_at b i) n top most leads (λ e. omega arith)

    pub passing_failed : p (n + 1) ≡ false → Leads (passing b i p) (benefit_at b i) (n + 1) top most
    passing_failed f =
        leads_kept (passing b i p) (benefit_at b i) n top most leads
        (λ e. absurd (let both = (and_parts (ltb 0 (benefit_at b i (n + 1))) (p (n + 1)) e).1 in cc))

-- by falling benefit, of value and old, and among equals by number, j comes after a
abbrev pub follows : ℕ → ℕ → ℕ → ℕ → Bool
follows value old a j = ltb value old || (eqb value old && ltb a j)

module _ (z : Size) (b u l : List ℕ) (i : ℕ) where
  pub top_is : best_passing z.strategies (benefit_at b i) (λ _. true) ≡ top_candidate (tables z b u l) i
  unfolding top_candidate is_candidate greater
  top_is =
      best_cong z.strategies (λ k. ltb 0 (benefit_at b i k) && true) (λ k. ltb 0 (benefit_at b i k)) (λ j k. ltb (benefit_at b i k) (benefit_at b i j)) (λ j k. ltb (benefit_at b i k) (benefit_at b i j))
      (λ k lk hk. and-true (ltb 0 (benefit_at b i k))) (λ j k lj hj lk hk pj pk. refl)

  pub next_is : (a : ℕ) → best_passing z.strategies (benefit_at b i) (λ j. follows (benefit_at b i j) (benefit_at b i a) a j) ≡ next_candidate (tables z b u l) i a
  unfolding next_candidate comes_after is_candidate greater
  next_is a = refl

-- ---- the top candidates together

pub bests_are : (t : Table) (c : List ℕ) → length c ≡ most_segments → ((k : ℕ) → 1 ≤ k → k ≤ most_segments → strategy_at c k ≡ top_candidate t k) → c ≡ bests t
unfolding bests
bests_are t c places tops =
    ext_get_or 0 c (bests t) (places ∙ sym (listed_length (top_candidate t) most_segments 1))
    (λ k h.
    let e : k + 1 - 1 ≡ k = omega arith in
    rw e at (tops (k + 1) (omega arith) (omega arith) ∙ sym (bests_at t (k + 1) (omega arith) (omega arith))))

pub bests_chosen : {z : Size} (b u l : List ℕ) {c : List ℕ} → c ≡ bests (tables z b u l) → Chosen z c
unfolding bests top_candidate
bests_chosen {z} b u l is = rw is (record { places = listed_length (top_candidate t) most_segments 1; numbers = λ i. known i (leb i most_segments) refl })
  where
    t : Table
    t = tables z b u l

    small : (i : ℕ) → top_candidate t i ≤ z.strategies
    small i = best_le z.strategies (is_candidate t i) (greater t i)

    known : (i : ℕ) (v : Bool) → leb i most_segments ≡ v → strategy_at (bests t) i ≤ z.strategies
    known zero v e = rw (bests_at t 1 (omega arith) (omega arith)) (small 1)
    known (suc i) true e = rw (bests_at t (suc i) (omega arith) (leb-true (suc i) most_segments e)) (small (suc i))
    known (suc i) false e = rw (get_or-eq_default (bests t) 0 {n = suc i - 1} (omega (arith, listed_length (top_candidate t) most_segments 1, leb-false (suc i) most_segments e))) (omega arith)

pub next_le : (z : Size) (b u l : List ℕ) (i a : ℕ) {j : ℕ} → j ≡ next_candidate (tables z b u l) i a → j ≤ z.strategies
unfolding next_candidate
next_le z b u l i a e = rw e (best_le z.strategies (comes_after (tables z b u l) i a) (greater (tables z b u l) i))
