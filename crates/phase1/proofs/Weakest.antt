-- The weakest segment: of the ratios, each with its segment's number, the least.
use Prim.Native.Nat.{ℕ, zero, suc, ◌+◌, ◌*◌, ◌/◌, ◌≤◌, ◌<◌}
use mathlib.Core.Path.{◌≡◌, refl, ap, ap₂, sym, ◌∙◌}
use mathlib.Core.Bool.{Bool, true, false}
use mathlib.Core.List.{List}
use Rattle.std.specs.Prelude.{Option, None, Some}
use Rattle.std.specs.Option.{option_map}
use Rattle.std.specs.Ordering.{nat_cmp, ordering_then, min_by_ordering}
use Rattle.std.specs.List.{reduce, filter_map, range_with_len}
use Rattle.std.proofs.Common.{Ordering, Less, Equal, Greater}
use Rattle.std.proofs.lemmas.Cmp.{ranked}
use native.Mathlib.Omega.{arith}
use borrow.Author.Tests.{lt-ltb, le-ltb, ltb-true, ltb-false}
use lib.Dec.{ltb}
use Rattle.base.specs.Choice.{pick}
use Rattle.base.specs.Over.{best, better_of}
use Rattle.base.proofs.Best.{best_le}
use Rattle.rules.specs.Table.{Table}
use Rattle.rules.specs.Phases.{chosen_benefit, pull, pulls, ratio, lesser_ratio, weakest}
use Rattle.tables.specs.declared.Size.{Size}
use Rattle.tables.specs.Arrays.{tables, Running}
use Rattle.phase1.specs.Reduce.{Shares, segment_in, ratio_at}
use Rattle.phase1.proofs.Pulls.{pull_same}
use Rattle.phase1.proofs.Reduced.{reduced}

-- ---- the lesser of two, by the ratio and then by the number

abbrev pub lesser : ℕ × ℕ → ℕ × ℕ → ℕ × ℕ
lesser p q = min_by_ordering (ordering_then (nat_cmp p.0 q.0) (nat_cmp p.1 q.1)) p q

lesser_taken : (p q : ℕ × ℕ) → q.0 < p.0 → lesser p q ≡ q
lesser_taken p q h = go (nat_cmp p.0 q.0) refl
  where
    go : (o : Ordering) → nat_cmp p.0 q.0 ≡ o → min_by_ordering (ordering_then o (nat_cmp p.1 q.1)) p q ≡ q
    go Less e = absurd (omega (arith, ranked p.0 q.0 Less (sym e)))
    go Equal e = absurd (omega (arith, ranked p.0 q.0 Equal (sym e)))
    go Greater e = refl

lesser_kept : (p q : ℕ × ℕ) → p.0 ≤ q.0 → p.1 < q.1 → lesser p q ≡ p
lesser_kept p q h lower = go (nat_cmp p.0 q.0) refl (nat_cmp p.1 q.1) refl
  where
    go : (o : Ordering) → nat_cmp p.0 q.0 ≡ o → (n : Ordering) → nat_cmp p.1 q.1 ≡ n → min_by_ordering (ordering_then o n) p q ≡ p
    go Less e n f = refl
    go Equal e Less f = refl
    go Equal e Equal f = refl
    go Equal e Greater f = absurd (omega (arith, ranked p.1 q.1 Greater (sym f)))
    go Greater e n f = absurd (omega (arith, ranked p.0 q.0 Greater (sym e)))

-- ---- the least of the first n segments

module _ (t : Table) (c : List ℕ) where
  module _ (i : ℕ) {p : ℕ} (pulled : p ≡ pull t c i) where
    pub ratio_none : p ≡ 0 → None ≡ ratio_at t c i
    unfolding pulls
    ratio_none z = rw (le-ltb 0 (pull t c i) (omega arith))

    module _ {x v : ℕ} (divided : x ≡ v * 1_000_000 / p) (worth : v ≡ chosen_benefit t c i) (some : p ≡ 0 → ⊥) where
      made : x ≡ ratio t c i
      unfolding ratio
      made = divided ∙ rw (worth, pulled)

      passes : pulls t c i ≡ true
      unfolding pulls
      passes = lt-ltb 0 (pull t c i) (omega arith)

      pub ratio_some : Some (x, i) ≡ ratio_at t c i
      ratio_some = rw (passes, made)

  -- the lesser of two ratios is that of the segment which the rules prefer
  turn : (a b : ℕ) → 1 ≤ a → a < b → lesser (ratio t c a, a) (ratio t c b, b) ≡ pick (lesser_ratio t c b a) (ratio t c b, b) (ratio t c a, a)
  unfolding lesser_ratio
  turn a b low less = go (ltb (ratio t c b) (ratio t c a)) refl
    where
      go : (x : Bool) → ltb (ratio t c b) (ratio t c a) ≡ x → lesser (ratio t c a, a) (ratio t c b, b) ≡ pick x (ratio t c b, b) (ratio t c a, a)
      go true h = lesser_taken (ratio t c a, a) (ratio t c b, b) (ltb-true (ratio t c b) (ratio t c a) h)
      go false h = lesser_kept (ratio t c a, a) (ratio t c b, b) (ltb-false (ratio t c b) (ratio t c a) h) less

  abbrev pub ratios : ℕ → List (ℕ × ℕ)
  ratios n = filter_map (λ k. ratio_at t c (k + 1)) (range_with_len 0 n)

  abbrev weak_at : ℕ → Option (ℕ × ℕ)
  weak_at zero = None
  weak_at (suc i) = Some (ratio t c (suc i), suc i)

  segment_of : (k : ℕ) → option_map (λ (q : ℕ × ℕ). q.1) (weak_at k) ≡ segment_in k
  segment_of zero = refl
  segment_of (suc k) = refl

  pub weakest_is : {v : Option (ℕ × ℕ)} → v ≡ reduce lesser (ratios t.segments) → option_map (λ (q : ℕ × ℕ). q.1) v ≡ segment_in (weakest t c)
  unfolding weakest
  weakest_is e =
      let least : reduce lesser (ratios t.segments) ≡ weak_at (best t.segments (pulls t c) (lesser_ratio t c)) =
      reduced (pulls t c) (lesser_ratio t c) (λ i. (ratio t c i, i)) lesser turn t.segments in
      ap (option_map (λ (q : ℕ × ℕ). q.1)) (e ∙ least) ∙ segment_of (best t.segments (pulls t c) (lesser_ratio t c))

-- ---- the weakest segment, whatever the uses are that have these shares and sums

best_cong : (n : ℕ) (p q : ℕ → Bool) (f g : ℕ → ℕ → Bool) → ((k : ℕ) → 1 ≤ k → k ≤ n → p k ≡ q k)
    → ((a b : ℕ) → 1 ≤ a → a ≤ n → 1 ≤ b → b ≤ n → f a b ≡ g a b) → best n p f ≡ best n q g
unfolding best better_of
best_cong zero p q f g h e = refl
best_cong (suc n) p q f g h e =
    ap (λ (b : ℕ). better_of p f b (suc n)) (best_cong n p q f g (λ k l m. h k l (omega arith)) (λ a b l m l₂ m₂. e a b l (omega arith) l₂ (omega arith)))
    ∙ go (best n q g) (best_le n q g)
  where
    go : (b : ℕ) → b ≤ n → better_of p f b (suc n) ≡ better_of q g b (suc n)
    go zero m = rw (h (suc n) (omega arith) (omega arith)) refl
    go (suc b) m = rw (h (suc n) (omega arith) (omega arith), e (suc n) (suc b) (omega arith) (omega arith) (omega arith) (omega arith)) refl

module _ {z : Size} {b l s c sums : List ℕ} {u v : List ℕ} (shares : Shares z b u l s) (running : Running z u c sums) (shares₂ : Shares z b v l s) (running₂ : Running z v c sums) where
  ratio_same : (i : ℕ) → 1 ≤ i → i ≤ z.segments → ratio (tables z b u l) c i ≡ ratio (tables z b v l) c i
  unfolding ratio chosen_benefit
  ratio_same i li hi = ap (λ (n : ℕ). chosen_benefit (tables z b u l) c i * 1_000_000 / n) (pull_same shares running shares₂ running₂ i li hi)

  pub weakest_same : weakest (tables z b u l) c ≡ weakest (tables z b v l) c
  unfolding weakest pulls lesser_ratio
  weakest_same =
      best_cong z.segments (pulls (tables z b u l) c) (pulls (tables z b v l) c) (lesser_ratio (tables z b u l) c) (lesser_ratio (tables z b v l) c)
      (λ i li hi. ap (ltb 0) (pull_same shares running shares₂ running₂ i li hi))
      (λ i k li hi lk hk. ap₂ ltb (ratio_same i li hi) (ratio_same k lk hk))
