-- The numbers of a row, one more in each turn.
use Prim.Native.Nat.{ℕ, ◌+◌, ◌^◌, ◌<◌}
use mathlib.Core.List.{List, [], ◌∷◌, ◌++◌}
use mathlib.Core.Path.{◌≡◌, refl, sym, ap, ◌∙◌}
use native.Mathlib.Omega.{arith}
use lib.ListN.{length, take, drop}
use Rattle.base.specs.Bytes.{Bytes, number_of}
use Rattle.base.proofs.Bytes.{bytes_drop}
use Rattle.script.specs.Script.{number_at}
use Rattle.base.specs.Over.{listed_from}
use Rattle.base.proofs.Listed.{listed_length, listed_append}

module _ (f : ℕ → ℕ) where
  pub listed_none : [] ≡ listed_from 0 0 f
  unfolding listed_from
  listed_none = refl

  pub listed_more : (n v : ℕ) (xs : List ℕ) → xs ≡ listed_from n 0 f → v ≡ f n → xs ++ (v ∷ []) ≡ listed_from (n + 1) 0 f
  unfolding listed_from
  listed_more n v xs e is =
      let next : 0 + n ≡ n = omega arith in
      rw (e, is) (ap (λ m. listed_from n 0 f ++ (f m ∷ [])) (sym next) ∙ listed_append f n 1 0)

  pub listed_count : (n : ℕ) (xs : List ℕ) → xs ≡ listed_from n 0 f → length xs ≡ n
  listed_count n xs e = ap length e ∙ listed_length f n 0

-- a number of at most four bytes is small
small : (bs : List ℕ) → Bytes bs → number_of (take 4 bs) < 2 ^ 32
small [] h = omega arith
small (a ∷ []) h = omega (arith, h 0)
small (a ∷ b ∷ []) h = omega (arith, h 0, h 1)
small (a ∷ b ∷ c ∷ []) h = omega (arith, h 0, h 1, h 2)
small (a ∷ b ∷ c ∷ d ∷ bs) h = omega (arith, h 0, h 1, h 2, h 3)

pub number_small : (at : ℕ) (bs : List ℕ) → Bytes bs → number_at at bs < 2 ^ 32
number_small at bs h = small (drop at bs) (bytes_drop at bs h)
