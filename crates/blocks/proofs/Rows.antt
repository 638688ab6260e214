-- A choice's row of numbers: what is kept of it, and where a block ends.
use Prim.Native.Nat.{ℕ, zero, suc, ◌≤◌, ◌<◌}
use mathlib.Core.Path.{◌≡◌, refl, sym, ◌∙◌}
use mathlib.Core.Bool.{false}
use mathlib.Core.List.{List, [], ◌∷◌, ◌++◌}
use native.Mathlib.Omega.{arith}
use lib.ListN.{length, get_or, take, replicate, length-append, length-replicate, get_or-replicate}
use lib.Seq.{length-take-le, get_or-take, ext_get_or}
use Rattle.rules.specs.District.{District}
use Rattle.rules.specs.Blocks.{number_in, end_of, is_row, followed}
use Rattle.rules.specs.declared.Choice.{Choice}

-- zeros behind a row make no difference
padded : (n : ℕ) (row : List ℕ) (k : ℕ) → k < n → get_or (row ++ replicate n 0) k 0 ≡ get_or row k 0
padded n [] k h = get_or-replicate n k 0 0 h
padded n (x ∷ row) zero h = refl
padded n (x ∷ row) (suc k) h = padded n row k (omega arith)

pub row_kept : (n : ℕ) (row xs : List ℕ) → length xs ≡ n → ((k : ℕ) → k < n → get_or xs k 0 ≡ get_or row k 0) → xs ≡ take n (row ++ replicate n 0)
row_kept n row xs e same =
    let long : n ≤ length (row ++ replicate n 0) = omega (arith, length-append row (replicate n 0), length-replicate {A = ℕ} n 0) in
    ext_get_or 0 xs (take n (row ++ replicate n 0)) (e ∙ sym (length-take-le n (row ++ replicate n 0) long))
    (λ k h. same k (omega arith) ∙ sym (get_or-take n (row ++ replicate n 0) k 0 (omega arith) ∙ padded n row k (omega arith)))

module _ (x : Choice) (d : District) where
  pub no_row : is_row x d ≡ false → followed x d ≡ false
  unfolding followed
  no_row e = rw e

  pub end_none : (b : ℕ) → b ≡ 0 → 0 ≡ end_of x d b
  unfolding end_of
  end_none b e = rw e

  pub end_some : (b : ℕ) → 1 ≤ b → {n : ℕ} → n ≡ number_in x d b 1 → n ≡ end_of x d b
  unfolding end_of
  end_some zero l e = absurd (omega arith)
  end_some (suc b) l e = e
