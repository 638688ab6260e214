-- The page line by line.
use Prim.Native.Nat.{ℕ, suc, ◌+◌, ◌-◌, ◌*◌, ◌<◌}
use mathlib.Core.Path.{◌≡◌, refl, sym, ap, ◌∙◌}
use mathlib.Core.List.{List, [], ◌∷◌, ◌++◌, append-nil, append_assoc}
use native.Mathlib.Omega.{arith}
use lib.ListN.{length}
use Rattle.base.specs.Over.{listed, listed_from}
use Rattle.base.proofs.Listed.{listed_length}
use Rattle.laws.proofs.Page.{lines_length}
use Rattle.rules.specs.District.{District, segments_of}
use Rattle.rules.specs.Page.{widths, line, heading, segment_row, total_row, limits_row, rows, lines}
use Rattle.rules.specs.declared.Programme.{Programme}
use Rattle.pages.specs.Printed.{line_bytes}

lines_append : (xs ys : List (List (List ℕ))) → lines (xs ++ ys) ≡ lines xs ++ lines ys
unfolding lines
lines_append [] ys = refl
lines_append (row ∷ xs) ys = rw (lines_append xs ys) (sym (append_assoc (line widths row) (lines xs) (lines ys)))

-- of n rows, the next and those after it
-- Beside listing's law of this name: there a line is made of each number (lines_from), here of each row that the rules list.
pub lines_next : (n i : ℕ) (f : ℕ → List (List ℕ)) → i < n → lines (listed_from (n - i) (i + 1) f) ≡ line widths (f (i + 1)) ++ lines (listed_from (n - (i + 1)) (i + 1 + 1) f)
unfolding lines listed_from
lines_next n i f h =
    let more : n - i ≡ suc (n - (i + 1)) = omega arith in
    let next : i + 1 + 1 ≡ suc (i + 1) = omega arith in
    rw (more, next)

module _ (d : District) (p : Programme) where
  pub segment_lines_length : length (lines (listed (segments_of d) (segment_row d p.strategies))) ≡ segments_of d * line_bytes
  segment_lines_length = omega (arith, lines_length (listed (segments_of d) (segment_row d p.strategies)), listed_length (segment_row d p.strategies) (segments_of d) 1)

  -- the heading, the segments, the total, the limits
  pub page_lines : lines (rows d p) ≡ line widths heading ++ (lines (listed (segments_of d) (segment_row d p.strategies)) ++ (line widths (total_row d p) ++ line widths (limits_row d)))
  unfolding rows lines
  page_lines =
      let segments = listed (segments_of d) (segment_row d p.strategies) in
      ap (λ (rest : List ℕ). line widths heading ++ rest)
      (lines_append segments (total_row d p ∷ limits_row d ∷ [])
      ∙ ap (λ (end : List ℕ). lines segments ++ (line widths (total_row d p) ++ end)) (append-nil (line widths (limits_row d))))
