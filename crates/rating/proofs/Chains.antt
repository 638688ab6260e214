-- Chains over the numbers 1 to n: what `1..n + 1` yields, and what `all` and `sum` over it say.
use Prim.Native.Nat.{ℕ, zero, suc, ◌+◌}
use mathlib.Core.Path.{◌≡◌, refl, sym, ap, ◌∙◌}
use mathlib.Core.Bool.{Bool, true, false, ◌&&◌, and-true, and_assoc}
use mathlib.Core.List.{List, map}
use native.Mathlib.Numerals.{add-one}
use native.Mathlib.Omega.{arith}
use denote.Param.Members.{Mut, Called}
use Rattle.std.proofs.iter.Yields.{nat_range_steps}
use Rattle.std.proofs.lemmas.Iterator.{YieldsList, YieldsList-from_range, YieldsList-from_map, maps}
use Rattle.std.proofs.lemmas.Iterator.Consumers.{YieldsList-at}
use Rattle.std.proofs.lemmas.List.Sums.{sum_by-cons}
use Rattle.std.specs.Iterator.{YieldsThen}
use Rattle.std.specs.List.{FoldsTo, list_all, range_with_len, sum_by}
use Rattle.std.specs.declared.ops.Range.{Range}
use Rattle.std.specs.declared.iter.Map.{Map}
use Rattle.std.proofs.lemmas.Iterator.Search.{all_from_yields_List}
use Rattle.std.specs.Prelude.{Option, MatchOption}
use Rattle.std.specs.Iterator.Adapters.{map_source, map_callee}
use Rattle.base.specs.Over.{all, sum}
use Rattle.base.proofs.Sums.{sum_none, sum_next}

-- ---- what the range yields

module _ {s : Range ℕ} (n : ℕ) (is : s ≡ record { start = 1; end = n + 1 }) where
  pub from_1 : YieldsList nat_range_steps (λ x. x) s (range_with_len 1 n)
  from_1 = YieldsList-from_range 1 (n + 1) n is (omega arith)

  -- and what `map` over it does, where the closure gives h of each number
  pub mapped_from_1 : {F R : Type 0} {chain : Map (Range ℕ) F} {g : Mut F (ℕ × Unit {0}) R} (h : ℕ → R) {f : F} → map_source chain ≡ s → map_callee chain ≡ f
      → ((k : ℕ) (r : R) (q : F) → Called g f (k, tt) r q → (q ≡ f) × (r ≡ h k)) → YieldsList (maps nat_range_steps g) (λ r. r) chain (map h (range_with_len 1 n))
  mapped_from_1 {g = g} h source = YieldsList-from_map g h (YieldsList-at source from_1)

-- ---- all of them pass

grown : (m : ℕ) (f : ℕ → Bool) → (all m f && f (m + 1)) ≡ all (m + 1) f
unfolding all
grown m f = rw add-one

from_front : (n m : ℕ) (f : ℕ → Bool) → (all m f && list_all f (range_with_len (m + 1) n)) ≡ all (m + n) f
from_front zero m f = let e : m + 0 ≡ m = omega arith in rw (and-true, e)
from_front (suc n) m f =
    let e : m + suc n ≡ m + 1 + n = omega arith in
    rw e
    (sym (and_assoc (all m f) (f (m + 1)) (list_all f (range_with_len (m + 1 + 1) n)))
    ∙ ap (λ (t : Bool). t && list_all f (range_with_len (m + 1 + 1) n)) (grown m f)
    ∙ from_front n (m + 1) f)

all_listed : (n : ℕ) (f : ℕ → Bool) → list_all f (range_with_len 1 n) ≡ all n f
unfolding all
all_listed n f = let e : 0 + n ≡ n = omega arith in rw e at (from_front n 0 f)

-- what `all` over the range says, where the closure gives each number's test
pub all_from_1 : {s : Range ℕ} (n : ℕ) → s ≡ record { start = 1; end = n + 1 } → {F : Type 0} {g : Mut F (ℕ × Unit {0}) Bool} {f : F} {u : Range ℕ} (test : ℕ → Bool) (r : Bool)
    → (xs : List ℕ) × (o : Option ℕ) × (j : F) × YieldsThen nat_range_steps s xs o u × FoldsTo (λ p x q. Called g p (x, tt) true q) f xs j
    × MatchOption o (r ≡ true) (λ x. (r ≡ false) × ((h : F) × Called g j (x, tt) false h))
    → ((x : ℕ) (b : Bool) (q : F) → Called g f (x, tt) b q → (q ≡ f) × (b ≡ test x)) → r ≡ all n test
all_from_1 n is test r ran gives = all_from_yields_List test _ _ r ran (from_1 n is) gives ∙ all_listed n test

-- ---- their sum

sum_front : (n m : ℕ) (f : ℕ → ℕ) → sum m f + sum_by f (range_with_len (m + 1) n) ≡ sum (m + n) f
sum_front zero m f = let e : m + 0 ≡ m = omega arith in rw e (omega arith)
sum_front (suc n) m f =
    let e : m + suc n ≡ m + 1 + n = omega arith in
    rw e (omega (arith, sum_by-cons f (m + 1) (range_with_len (m + 1 + 1) n), sum_next m f refl, sum_front n (m + 1) f))

pub sum_listed : (n : ℕ) (f : ℕ → ℕ) → sum_by f (range_with_len 1 n) ≡ sum n f
sum_listed n f =
    let e : 0 + n ≡ n = omega arith in
    let whole = rw e at (sum_front n 0 f) in
    omega (arith, sum_none f, whole)
