-- docs/FILE.md, "The text": its lines, and the words of a line.
use Rattle.std.specs.Prelude.{ℕ, ◌+◌, Bool, true, false, ◌||◌, List, [], ◌∷◌, eqb, length}
use Rattle.base.specs.Text.{up_to}

-- a row of bytes that holds no blank and no '#'
abbrev pub Word : Type 0
Word = List ℕ

abbrev pub Words : Type 0
Words = List Word

-- ---- the parts that marks divide

-- one byte more in front: a mark ends a part, another byte is the first of the part that follows
abbrev pub onto : Bool → ℕ → List (List ℕ) → List (List ℕ)
onto true b ps = [] ∷ ps
onto false b [] = (b ∷ []) ∷ []
onto false b (p ∷ ps) = (b ∷ p) ∷ ps

-- each part ends with a mark, which the last may lack
unfoldable pub parts : (ℕ → Bool) → List ℕ → List (List ℕ)
parts is_mark [] = []
parts is_mark (b ∷ bs) = onto (is_mark b) b (parts is_mark bs)

-- ---- "Lines": each ends with a line feed, which the last may lack

abbrev pub is_line_feed : ℕ → Bool
is_line_feed b = eqb b 10

-- how many there are
unfoldable pub lines_in : List ℕ → ℕ
lines_in bs = length (parts is_line_feed bs)

-- ---- "Comments", "Blanks" and "Words"

abbrev pub comment_mark : ℕ
comment_mark = 35

-- a space, a tab, a carriage return
abbrev pub is_blank : ℕ → Bool
is_blank b = eqb b 32 || (eqb b 9 || eqb b 13)

-- those that have a byte
unfoldable pub not_empty : List (List ℕ) → List (List ℕ)
not_empty [] = []
not_empty ([] ∷ ps) = not_empty ps
not_empty ((b ∷ bs) ∷ ps) = (b ∷ bs) ∷ not_empty ps

-- blanks stand between words
unfoldable pub words_in : List ℕ → Words
words_in bs = not_empty (parts is_blank bs)

-- the words of a line: '#' ends what is read of it
unfoldable pub words_of : List ℕ → Words
words_of line = words_in (up_to comment_mark line)

-- ---- "Empty lines": a line without a word is passed over, and counts as a line

-- a line that has words, and its number, from 1
pub record Line : Type 0 where
  pub number : ℕ
  pub words : Words

abbrev pub kept : ℕ → Words → List Line → List Line
kept n [] ls = ls
kept n (w ∷ ws) ls = record { number = n; words = w ∷ ws } ∷ ls

-- from the n-th on
unfoldable pub lines_from : ℕ → List (List ℕ) → List Line
lines_from n [] = []
lines_from n (p ∷ ps) = kept n (words_of p) (lines_from (n + 1) ps)

unfoldable pub lines_of : List ℕ → List Line
lines_of bs = lines_from 1 (parts is_line_feed bs)
