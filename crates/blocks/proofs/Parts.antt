-- Parts that are taken from a limit one after another: something is left where their sum is no more than it.
use Prim.Native.Nat.{ℕ, zero, suc, ◌+◌, ◌-◌, ◌≤◌}
use mathlib.Core.Path.{◌≡◌, refl, sym, ap, ◌∙◌}
use mathlib.Core.Bool.{Bool, true, false}
use native.Mathlib.Omega.{arith}
use lib.Dec.{leb}
use borrow.Author.Tests.{le-leb, lt-leb, leb-true, leb-false}
use Rattle.std.specs.Prelude.{Option, None, Some, is_some, SomeIff}
use Rattle.std.specs.List.{range_with_len}
use Rattle.base.proofs.Folds.{folded}
use Rattle.base.specs.Choice.{pick}
use Rattle.base.specs.Over.{sum}
use Rattle.base.proofs.Choice.{leb_same}
use Rattle.base.proofs.Sums.{sum_none, sum_next, sum_more}

module _ (part : ℕ → ℕ) where
  abbrev pub taken : ℕ → ℕ → Option ℕ
  taken left b = pick (leb (part b) left) (Some (left - part b)) None

  pub taken_is : (left b : ℕ) (r : Option ℕ) → SomeIff r (part b ≤ left) (left - part b) → r ≡ taken left b
  taken_is left b None over = rw (lt-leb (part b) left (omega (arith, over)))
  taken_is left b (Some n) e = rw (le-leb (part b) left e.0) (ap Some e.1)

  -- one more part, after the first m
  one_taken : (n m left : ℕ) (rest : is_some (folded taken (left - part (m + 1)) (range_with_len (m + 1 + 1) n)) ≡ leb (sum (m + 1 + n) part - sum (m + 1) part) (left - part (m + 1)))
      → (v : Bool) → leb (part (m + 1)) left ≡ v → is_some (folded taken left (range_with_len (m + 1) (suc n))) ≡ leb (sum (m + 1 + n) part - sum m part) left
  one_taken n m left rest true q =
      let l = leb-true (part (m + 1)) left q in
      let next = sum_next m part refl in
      let more = sum_more (m + 1) (m + 1 + n) part (omega arith) in
      rw q (rest ∙ leb_same _ _ _ _ (λ h. omega (arith, next, more, l, h)) (λ h. omega (arith, next, more, l, h)))
  one_taken n m left rest false q =
      let l = leb-false (part (m + 1)) left q in
      let next = sum_next m part refl in
      let more = sum_more (m + 1) (m + 1 + n) part (omega arith) in
      rw q (sym (lt-leb _ left (omega (arith, next, more, l))))

  all_taken : (n m left : ℕ) → is_some (folded taken left (range_with_len (m + 1) n)) ≡ leb (sum (m + n) part - sum m part) left
  all_taken zero m left = let e : m + 0 ≡ m = omega arith in rw e (sym (le-leb (sum m part - sum m part) left (omega arith)))
  all_taken (suc n) m left =
      let e : m + suc n ≡ m + 1 + n = omega arith in
      rw e (one_taken n m left (all_taken n (m + 1) (left - part (m + 1))) (leb (part (m + 1)) left) refl)

  pub parts_taken : (n left : ℕ) → is_some (folded taken left (range_with_len 1 n)) ≡ leb (sum n part) left
  parts_taken n left =
      let e : 0 + n ≡ n = omega arith in
      let z : sum n part - 0 ≡ sum n part = omega arith in
      rw (e, ← sum_none part, z) at (all_taken n 0 left)
