-- How long a page is: every line has 81 bytes, whatever stands in its columns.
use Prim.Native.Nat.{ℕ, suc, ◌+◌, ◌-◌, ◌*◌}
use mathlib.Core.Path.{◌≡◌, refl, ap, ap₂, ◌∙◌}
use mathlib.Core.Bool.{Bool, true, false}
use mathlib.Core.List.{List, [], ◌∷◌, ◌++◌}
use native.Mathlib.Omega.{arith}
use borrow.Author.Tests.{leb-true}
use lib.Dec.{leb}
use lib.ListN.{length, replicate, length-append, length-replicate}
use Rattle.base.specs.Choice.{pick}
use Rattle.base.specs.Over.{listed}
use Rattle.base.specs.Text.{text}
use Rattle.base.proofs.Listed.{listed_length}
use Rattle.rules.specs.District.{District, segments_of}
use Rattle.rules.specs.File.{in_range}
use Rattle.rules.specs.Page.{widths, right_aligned, line, segment_row, total_row, limits_row, rows, lines, page, page_length}
use Rattle.rules.specs.declared.Programme.{Programme}

-- ---- a line

pub aligned_length : (w : ℕ) (bs : List ℕ) → length (right_aligned w bs) ≡ w
unfolding right_aligned
aligned_length w bs = known (leb (length bs) w) refl
  where
    known : (t : Bool) → leb (length bs) w ≡ t → length (pick t (replicate (w - length bs) 32 ++ bs) (replicate w 42)) ≡ w
    known true e =
        length-append (replicate (w - length bs) 32) bs ∙ rw (length-replicate {A = ℕ} (w - length bs) 32) (omega (arith, leb-true (length bs) w e))
    known false e = length-replicate {A = ℕ} w 42

-- the columns with a blank behind each, and the end
abbrev columns : List ℕ → ℕ
columns [] = 10
columns (w ∷ ws) = w + suc (columns ws)

column_more : (w : ℕ) (bs rest : List ℕ) {n : ℕ} → length rest ≡ n → length (right_aligned w bs ++ (text " " ++ rest)) ≡ w + suc n
unfolding text
column_more w bs rest e = length-append (right_aligned w bs) (text " " ++ rest) ∙ ap₂ ◌+◌ (aligned_length w bs) (ap suc e)

columns_length : (ws : List ℕ) (row : List (List ℕ)) → length (line ws row) ≡ columns ws
unfolding line text
columns_length [] row = refl
columns_length (w ∷ ws) [] = column_more w [] (line ws []) (columns_length ws [])
columns_length (w ∷ ws) (bs ∷ row) = column_more w bs (line ws row) (columns_length ws row)

pub line_length : (row : List (List ℕ)) → length (line widths row) ≡ 81
line_length row = columns_length widths row

-- ---- the page

pub lines_length : (rs : List (List (List ℕ))) → length (lines rs) ≡ length rs * 81
unfolding lines
lines_length [] = refl
lines_length (row ∷ rest) = length-append (line widths row) (lines rest) ∙ omega (arith, line_length row, lines_length rest)

module _ (d : District) (p : Programme) where
  pub rows_length : length (rows d p) ≡ segments_of d + 3
  unfolding rows
  rows_length =
      let segments = listed (segments_of d) (segment_row d p.strategies) in
      omega (arith, length-append segments (total_row d p ∷ limits_row d ∷ []), listed_length (segment_row d p.strategies) (segments_of d) 1)

  pub page_length_lem : length (page d p) ≡ page_length d
  unfolding page page_length
  page_length_lem = known (in_range d)
    where
      known : (t : Bool) → length (pick t (lines (rows d p)) []) ≡ pick t ((segments_of d + 3) * 81) 0
      known true = lines_length (rows d p) ∙ ap (λ (n : ℕ). n * 81) rows_length
      known false = refl
