-- Laws of chains over the numbers a to b: what `find` and `find_map` over `a..=b` find. Those of reasons are of `a..b`,
-- which is another kind of range.
use Prim.Native.Nat.{ℕ, ◌+◌, ◌-◌, ◌≤◌, ◌<◌}
use mathlib.Core.Path.{◌≡◌, sym, ap, subst, ◌∙◌}
use mathlib.Core.Bool.{Bool, true, false}
use native.Mathlib.Omega.{arith}
use denote.Param.Members.{Mut, Called}
use Rattle.std.specs.Prelude.{Option, None, Some, MatchOption, IsSomeAnd, IfSome, IsTrue}
use denote.Bor.{Bor}
use Rattle.std.specs.Fn.{CalledAt}
use Rattle.std.specs.Range.{range_inclusive_start, range_inclusive_end, range_inclusive_exhausted}
use Rattle.std.specs.declared.ops.RangeInclusive.{RangeInclusive}
use Rattle.std.specs.Iterator.Runs.{Run, SomeRun, ItemsCountUp, CallKeepsClosure, AllItemsGive, IsFirstToGive, NoItemPasses, EndsAtFirstPassing}
use Rattle.std.proofs.iter.runs.Sources.{nat_range_inclusive_steps, inclusive_listed}
use Rattle.std.proofs.lemmas.Iterator.Adapters.{option_map_id}

-- a run that counts up from a, before end
module _ (p : Run nat_range_inclusive_steps) (a end : ℕ) (counts : ItemsCountUp p a end) where
  at_place : (k : ℕ) → k < p.len → p.at k ≡ Some (a + k)
  at_place k l = sym (option_map_id (p.at k)) ∙ counts.3 k l

  -- the place of number k
  module _ (k : ℕ) (low : a ≤ k) (there : k - a < p.len) where
    at_number : p.at (k - a) ≡ Some k
    at_number = let same : a + (k - a) ≡ k = omega arith in rw same at (at_place (k - a) there)

  module _ {F B : Type 0} {g : Mut F (ℕ × Unit {0}) (Option B)} {f : F} (keeps : CallKeepsClosure g f) (Hit : ℕ → B → Type 0) (Miss : ℕ → Type 0)
      (hit : (x : ℕ) (y : B) → Called g f (x, tt) (Some y) f → Hit x y) (miss : (x : ℕ) → Called g f (x, tt) None f → Miss x) where
    mapped : (r : Option B) → MatchOption r (IsTrue p.whole × AllItemsGive p g f None) (λ y. (i : ℕ) × (i < p.len) × (p.len ≡ i + 1) × IsFirstToGive p g f (Some y) None i)
        → MatchOption r ((k : ℕ) → a ≤ k → k < end → Miss k) (λ y. (i : ℕ) × (a ≤ i) × (i < end) × Hit i y × ((k : ℕ) → a ≤ k → k < i → Miss k))
    mapped None h = λ k lo hi.
        miss k (subst (λ o. IfSome o (λ x. Called g f (x, tt) None f)) (at_number k lo (omega (arith, counts.1 h.0))) (h.1 keeps (k - a)))
    mapped (Some y) h =
        let i : ℕ = h.0 in
        let called = h.3 keeps in (
          a + i,
          omega arith,
          omega (arith, counts.0, h.1),
          hit (a + i) y (subst (λ o. IsSomeAnd o (λ x. Called g f (x, tt) (Some y) f)) (at_place i h.1) called.0),
          λ k lo hi.
              let before : k - a < i = omega arith in
              miss k (subst (λ o. IsSomeAnd o (λ x. Called g f (x, tt) None f)) (at_number k lo (omega (arith, before, h.1))) (called.1 (k - a) before)),
        )

  module _ {F : Type 0} {g : Mut F (Bor ℕ × Unit {0}) Bool} {f : F} (keeps : CallKeepsClosure g f) (Yes No : ℕ → Type 0)
      (hit : (x : ℕ) → CalledAt g f x true f → Yes x) (miss : (x : ℕ) → CalledAt g f x false f → No x) where
    found : (r : Option ℕ) → MatchOption r (IsTrue p.whole × NoItemPasses p g f) (EndsAtFirstPassing p g f)
        → MatchOption r ((k : ℕ) → a ≤ k → k < end → No k) (λ i. (a ≤ i) × (i < end) × Yes i × ((k : ℕ) → a ≤ k → k < i → No k))
    found None h = λ k lo hi.
        miss k (subst (λ o. IfSome o (λ x. CalledAt g f x false f)) (at_number k lo (omega (arith, counts.1 h.0))) (h.1 keeps (k - a)))
    found (Some x) h =
        let i : ℕ = h.0 in
        let called = h.3 keeps in
        let here : x ≡ a + i = let e : Some x ≡ Some (a + i) = sym h.2 ∙ at_place i (omega (arith, h.1)) in cc in (
          omega (arith, here),
          omega (arith, here, counts.0, h.1),
          hit x called.0,
          λ k lo hi.
              let before : k - a < i = omega (arith, here) in
              miss k (subst (λ o. IsSomeAnd o (λ x. CalledAt g f x false f)) (at_number k lo (omega (arith, before, h.1))) (called.1 (k - a) before)),
        )

module _ (s : RangeInclusive ℕ) {a b : ℕ} (from : range_inclusive_start s ≡ a) (to : range_inclusive_end s ≡ b) (fresh : range_inclusive_exhausted s ≡ false) where
  counting : (p : Run nat_range_inclusive_steps) → p.from ≡ s → ItemsCountUp p a (b + 1)
  counting p is =
      let l = inclusive_listed p p.seen in
      let up = l.4 (ap range_inclusive_exhausted is ∙ fresh) in
      let start : l.0 ≡ a = l.2 ∙ ap range_inclusive_start is ∙ from in
      let end : l.1 ≡ b + 1 = l.3 ∙ ap (λ (r : RangeInclusive ℕ). range_inclusive_end r + 1) is ∙ ap (λ (k : ℕ). k + 1) to in
      rw (start, end) at up.0

  -- `find_map`, said of the numbers
  pub first_mapped : {F B : Type 0} {g : Mut F (ℕ × Unit {0}) (Option B)} {f : F} (r : Option B) (Hit : ℕ → B → Type 0) (Miss : ℕ → Type 0)
      → SomeRun nat_range_inclusive_steps s (λ p. MatchOption r (IsTrue p.whole × AllItemsGive p g f None) (λ y. (i : ℕ) × (i < p.len) × (p.len ≡ i + 1) × IsFirstToGive p g f (Some y) None i))
      → CallKeepsClosure g f → ((x : ℕ) (y : B) → Called g f (x, tt) (Some y) f → Hit x y) → ((x : ℕ) → Called g f (x, tt) None f → Miss x)
      → MatchOption r ((k : ℕ) → a ≤ k → k < b + 1 → Miss k) (λ y. (i : ℕ) × (a ≤ i) × (i < b + 1) × Hit i y × ((k : ℕ) → a ≤ k → k < i → Miss k))
  first_mapped r Hit Miss d keeps hit miss = mapped d.0 a (b + 1) (counting d.0 d.1) keeps Hit Miss hit miss r d.2

  -- `find`
  pub first_found : {F : Type 0} {g : Mut F (Bor ℕ × Unit {0}) Bool} {f : F} (r : Option ℕ) (Yes No : ℕ → Type 0)
      → SomeRun nat_range_inclusive_steps s (λ p. MatchOption r (IsTrue p.whole × NoItemPasses p g f) (EndsAtFirstPassing p g f))
      → CallKeepsClosure g f → ((x : ℕ) → CalledAt g f x true f → Yes x) → ((x : ℕ) → CalledAt g f x false f → No x)
      → MatchOption r ((k : ℕ) → a ≤ k → k < b + 1 → No k) (λ i. (a ≤ i) × (i < b + 1) × Yes i × ((k : ℕ) → a ≤ k → k < i → No k))
  first_found r Yes No d keeps hit miss = found d.0 a (b + 1) (counting d.0 d.1) keeps Yes No hit miss r d.2
