-- What cells say, and how they stand in a line.
use Prim.Native.Nat.{ℕ, ◌+◌, ◌-◌, ◌≤◌, ◌<◌}
use mathlib.Core.Path.{◌≡◌, ap, ◌∙◌}
use mathlib.Core.List.{List, ◌++◌}
use borrow.Author.Tests.{le-leb, lt-leb}
use native.Mathlib.Omega.{arith}
use borrow.Rule.Slice.PartMut.{put_mid}
use lib.ListN.{length, take, drop, replicate, length-append, length-replicate}
use Rattle.listing.proofs.Pieces.{put_two}
use Rattle.base.specs.Text.{text, Put}
use Rattle.laws.proofs.Page.{aligned_length}
use Rattle.rules.specs.Page.{right_aligned}

-- ---- a column

module _ (w : ℕ) (bs : List ℕ) where
  pub aligned_wide : w < length bs → right_aligned w bs ≡ replicate w 42
  unfolding right_aligned
  aligned_wide h = rw (lt-leb (length bs) w h)

  aligned_fits : length bs ≤ w → right_aligned w bs ≡ replicate (w - length bs) 32 ++ bs
  unfolding right_aligned
  aligned_fits h = rw (le-leb (length bs) w h)

  -- the blanks are put, and then the text
  pub aligned_put :
      {old out last : List ℕ} {n m : ℕ} → length bs ≤ w → w ≤ length old → Put (replicate (w - length bs) 32) old out n
      → Put bs (take (length out - n) (drop n out)) last m → Put (right_aligned w bs) old (put_mid n (length out - n) out last) (n + m)
  aligned_put {old} h k p q =
      let room : length (replicate (w - length bs) 32 ++ bs) ≤ length old =
      omega (arith, length-append (replicate (w - length bs) 32) bs, length-replicate {A = ℕ} (w - length bs) 32) in
      rw (aligned_fits h) (put_two (replicate (w - length bs) 32) bs room p q)

  -- with the blank behind it
  pub column_length : length (right_aligned w bs ++ text " ") ≡ w + 1
  unfolding text
  column_length = length-append (right_aligned w bs) (text " ") ∙ ap (λ (n : ℕ). n + 1) (aligned_length w bs)
