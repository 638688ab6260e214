-- The sum of a chain that gives signed numbers: what it comes to, and that it stays in range.
use Prim.Native.Nat.{ℕ, zero, suc, ◌+◌, ◌*◌, ◌^◌, ◌≤◌, ◌<◌}
use mathlib.Core.Path.{◌≡◌, refl, sym, ap, subst, ◌∙◌}
use mathlib.Core.List.{List, map, map-id}
use native.Mathlib.Nat.{le_refl, lt_of_le_of_lt, mul-le-mul}
use native.Mathlib.Omega.{arith}
use lib.IntN.{ℤ, pos, nat_abs, ◌+ℤ◌}
use lib.ListN.{length, take}
use mir.Syntax.{w64}
use mir.Val.{to_z, of_z}
use mir.Facts.{to_z-of_z}
use Rattle.std.proofs.lemmas.Iterator.{YieldsList}
use Rattle.std.proofs.lemmas.Iterator.Consumers.{YieldsList-so_far, YieldsList-end}
use Rattle.std.specs.Prelude.{Option, None, ⊤, FitsSigned}
use Rattle.std.specs.Iterator.{Yields, Drains}
use Rattle.std.specs.Iterator.Runs.{EachRunFrom, YieldsRun}
use Rattle.std.specs.List.{fold, range_with_len}
use Rattle.base.specs.Over.{sum_z}
use Rattle.base.proofs.Integers.{sum_z_none, sum_z_next, sum_z_fits}

-- the first k of n, added to those before
front : (k n m : ℕ) (f : ℕ → ℤ) {s : ℤ} → s ≡ sum_z m f → (i : ℕ) × (i ≤ m + n) × (fold ◌+ℤ◌ s (take k (map f (range_with_len (m + 1) n))) ≡ sum_z i f)
front zero n m f e = (m, omega arith, e)
front (suc k) zero m f e = (m, omega arith, e)
front (suc k) (suc n) m f e = let next = front k n (m + 1) f (sum_z_next m f e) in (next.0, omega (arith, next.1), next.2)

-- all of them
whole : (n m : ℕ) (f : ℕ → ℤ) {s : ℤ} → s ≡ sum_z m f → fold ◌+ℤ◌ s (map f (range_with_len (m + 1) n)) ≡ sum_z (m + n) f
whole zero m f e = let k : m + 0 ≡ m = omega arith in rw k e
whole (suc n) m f {s} e = let k : m + suc n ≡ m + 1 + n = omega arith in rw k (whole n (m + 1) f (sum_z_next m f e))

module _ {S : Type 0} {steps : S → Option ℤ → S → Type 0} (s : S) (n m : ℕ) (f : ℕ → ℤ) (all : YieldsList steps (λ x. x) s (map f (range_with_len 1 n)))
    (small : (k : ℕ) → 1 ≤ k → k ≤ n → nat_abs (f k) ≤ m) (fits : n * m < 2 ^ 63) where
  pub signed_fits : EachRunFrom steps s (λ p. FitsSigned w64 (fold ◌+ℤ◌ (pos 0) p.items))
  unfolding YieldsRun
  signed_fits = λ p _ at.
      let first = sym (map-id p.items) ∙ YieldsList-so_far all p.items p.gave.0.0 (subst (λ u. Yields steps u p.items p.gave.0.0) at p.gave.0.1) in
      let some = front (length p.items) n 0 f (sum_z_none f) in
      subst (λ z. FitsSigned w64 z) (sym (ap (fold ◌+ℤ◌ (pos 0)) first ∙ some.2)) (sum_z_fits w64 some.0 m f (λ k a b. small k a (omega (arith, some.1))) (lt_of_le_of_lt (mul-le-mul {n₂ = n} (omega (arith, some.1)) (le_refl m)) fits))

  pub signed_sum : (r : ℤ) → ((xs : List ℤ) × (⊤ → Drains steps s xs) × (r ≡ fold ◌+ℤ◌ (pos 0) xs)) → to_z w64 (of_z w64 r) ≡ sum_z n f
  signed_sum r h =
      let d = h.1 tt in
      let k : 0 + n ≡ n = omega arith in
      let sum : r ≡ sum_z n f = h.2 ∙ ap (fold ◌+ℤ◌ (pos 0)) (sym (map-id h.0) ∙ (YieldsList-end all h.0 d.1.0 d.1.1 None d.0 refl d.1.2).0) ∙ rw k at (whole n 0 f (sum_z_none f)) in
      rw sum (to_z-of_z (sum_z_fits w64 n m f small fits))
