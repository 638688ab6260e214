-- Document 02, request 2: the page for the wall, made of the district and the programme held.
use Rattle.std.specs.Prelude.{ℕ, ◌+◌, ◌-◌, ◌*◌, ◌/◌, ◌%◌, List, [], ◌∷◌, ◌++◌, leb, length, replicate}
use Rattle.base.specs.Choice.{pick}
use Rattle.base.specs.Over.{listed, divide_up}
use Rattle.base.specs.Text.{text, decimal}
use Rattle.rules.specs.District.{District, segments_of, resources_of, limit_of, length_of, width_of}
use Rattle.rules.specs.File.{in_range}
use Rattle.rules.specs.Table.{table_of}
use Rattle.rules.specs.Phases.{strategy_at, chosen_benefit, chosen_usage, used}
use Rattle.rules.specs.declared.Programme.{Programme}

-- ---- a line: a text in each column

-- how many characters each column has
abbrev pub widths : List ℕ
widths = 2 ∷ 5 ∷ 3 ∷ 2 ∷ 14 ∷ 9 ∷ 9 ∷ 9 ∷ 9 ∷ []

-- to the right in w characters; a text that is too wide leaves asterisks, so that no part of a number is taken for the number
unfoldable pub right_aligned : ℕ → List ℕ → List ℕ
right_aligned w bs = pick (leb (length bs) w) (replicate (w - length bs) 32 ++ bs) (replicate w 42)

-- a blank behind each column; behind the last there are ten, and the line feed
unfoldable pub line : List ℕ → List (List ℕ) → List ℕ
line (w ∷ ws) (bs ∷ row) = right_aligned w bs ++ (text " " ++ line ws row)
line (w ∷ ws) [] = right_aligned w [] ++ (text " " ++ line ws [])
line [] row = replicate 9 32 ++ text "\n"

-- ---- what stands in the columns

-- hundredths of a mile in miles, with a digit before the point
unfoldable pub miles : ℕ → List ℕ
miles n = decimal (n / 100) ++ (text "." ++ ((48 + n / 10 % 10) ∷ (48 + n % 10) ∷ []))

-- a use in whole units, rounded up
abbrev pub whole_units : ℕ → ℕ
whole_units x = divide_up x 100_000

-- a number for each of the first four resources; blank for one that the district does not have
unfoldable pub by_resource : District → (ℕ → ℕ) → List (List ℕ)
by_resource d f = listed 4 (λ r. pick (leb r (resources_of d)) (decimal (f r)) [])

unfoldable pub heading : List (List ℕ)
heading =
    text "NO" ∷ text "MILES" ∷ text "FT" ∷ text "ST" ∷ text "BENEFIT" ∷ text "R1" ∷ text "R2" ∷ text "R3" ∷ text "R4" ∷ []

-- of segment i under the programme c
unfoldable pub segment_row : District → List ℕ → ℕ → List (List ℕ)
segment_row d c i =
    decimal i ∷ miles (length_of d i) ∷ decimal (width_of d i) ∷ decimal (strategy_at c i) ∷ decimal (chosen_benefit (table_of d) c i)
    ∷ by_resource d (λ r. whole_units (chosen_usage (table_of d) c r i))

-- the total and the summed uses; a sum is rounded up once
unfoldable pub total_row : District → Programme → List (List ℕ)
total_row d p =
    [] ∷ [] ∷ [] ∷ [] ∷ decimal p.total ∷ by_resource d (λ r. whole_units (used (table_of d) p.strategies r))

unfoldable pub limits_row : District → List (List ℕ)
limits_row d = [] ∷ [] ∷ [] ∷ [] ∷ [] ∷ by_resource d (limit_of d)

-- ---- the page

unfoldable pub rows : District → Programme → List (List (List ℕ))
rows d p = heading ∷ (listed (segments_of d) (segment_row d p.strategies) ++ (total_row d p ∷ limits_row d ∷ []))

-- one line after the other
unfoldable pub lines : List (List (List ℕ)) → List ℕ
lines [] = []
lines (row ∷ rest) = line widths row ++ lines rest

-- a district out of the file's ranges, to which no list of calls leads, has no page, as it has no programme
unfoldable pub page : District → Programme → List ℕ
page d p = pick (in_range d) (lines (rows d p)) []

-- how many bytes a page has: each line has 80 characters and a line feed
unfoldable pub page_length : District → ℕ
page_length d = pick (in_range d) ((segments_of d + 3) * 81) 0
