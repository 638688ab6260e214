-- A list of zeros that is filled at its front alone: the rest stands for entries that are 0.
use Prim.Native.Nat.{ℕ, zero, suc, ◌+◌, ◌-◌, ◌≤◌, ◌<◌}
use mathlib.Core.Path.{◌≡◌, refl, sym, ap, ap₂, ◌∙◌}
use mathlib.Core.List.{List, ◌∷◌, ◌++◌}
use native.Mathlib.Omega.{arith}
use lib.ListN.{get_or, length, drop, replicate}
use lib.Seq.{ext_get_or}
use Rattle.std.proofs.lemmas.List.{drop-replicate}
use Rattle.base.specs.Over.{listed, listed_from}
use Rattle.base.proofs.Listed.{listed_cong, listed_append, listed_length, listed_at}

module _ (f : ℕ → ℕ) where
  zeros_listed : (k m : ℕ) → ((x : ℕ) → x < k → f (m + x) ≡ 0) → replicate k 0 ≡ listed_from k m f
  unfolding listed_from
  zeros_listed zero m h = refl
  zeros_listed (suc k) m h =
      let a : m + 0 ≡ m = omega arith in
      ap₂ ◌∷◌ (sym (sym (ap f a) ∙ h 0 (omega arith))) (zeros_listed k (suc m) (λ x l. let b : m + suc x ≡ suc m + x = omega arith in sym (ap f b) ∙ h (suc x) (omega arith)))

  pub fill_front : (n k m : ℕ) (d : List ℕ) → d ≡ replicate k 0 → n ≤ k → ((x : ℕ) → n ≤ x → x < k → f (m + x) ≡ 0) → listed_from n m f ++ drop n d ≡ listed_from k m f
  fill_front n k m d zeros h past =
      let e : n + (k - n) ≡ k = omega arith in
      let rest : drop {A = ℕ} n d ≡ listed_from (k - n) (m + n) f =
      ap (drop n) zeros ∙ drop-replicate n k 0
      ∙ zeros_listed (k - n) (m + n) (λ x l. let b : m + n + x ≡ m + (n + x) = omega arith in ap f b ∙ past (n + x) (omega arith) (omega arith)) in
      ap (λ (l : List ℕ). listed_from n m f ++ l) rest ∙ listed_append f n (k - n) m ∙ ap (λ (v : ℕ). listed_from v m f) e

-- what is made of numbers from 0 is what the rules list from 1
pub from_1 : {n m : ℕ} (f : ℕ → ℕ) → n ≡ m → listed_from n 0 (λ k. f (k + 1)) ≡ listed m f
from_1 {n} {m} f e = rw e (listed_cong m 0 1 (λ k. f (k + 1)) f (λ x h. ap f (omega arith)))

-- a list of a number for each of 1, .. n
pub each_listed_is : (f : ℕ → ℕ) (xs : List ℕ) (n : ℕ) → length xs ≡ n → ((r : ℕ) → 1 ≤ r → r ≤ n → get_or xs (r - 1) 0 ≡ f r) → xs ≡ listed n f
each_listed_is f xs n long each =
    ext_get_or 0 xs (listed n f) (long ∙ sym (listed_length f n 1))
    (λ k h.
    let at : k + 1 - 1 ≡ k = omega arith in
    let up : 1 + k ≡ k + 1 = omega arith in
    rw at at (each (k + 1) (omega arith) (omega arith)) ∙ sym (listed_at n 1 k f (omega arith) ∙ ap f up))
