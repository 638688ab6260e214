-- Document 01, "The calls": survey points, the deduct points of Table 1 of the report.
use Rattle.std.specs.Prelude.{ℕ, ◌+◌, ◌-◌, ◌&&◌, List, [], ◌∷◌, leb, eqb, get_or}
use Rattle.base.specs.Choice.{pick}
use Rattle.base.specs.Over.{between}
use Rattle.rules.specs.Answers.{no_such_points, unless, answer_of, Answer}

abbrev pub row : ℕ → ℕ → ℕ → List ℕ
row a b c = a ∷ b ∷ c ∷ []

abbrev pub block : List ℕ → List ℕ → List ℕ → List (List ℕ)
block a b c = a ∷ b ∷ c ∷ []

-- a block for each distress, and for each seal where there are seals: a row for each degree from 1, an entry for each extent from 1
unfoldable pub deduct_points : List (List (List ℕ))
deduct_points =
    -- 1 rutting
    block (row 0 2 5) (row 5 7 10) (row 10 12 15)
    -- 2 raveling, 3 flushing, 4 corrugations
    ∷ block (row 5 8 10) (row 10 12 15) (row 15 18 20)
    ∷ block (row 5 8 10) (row 10 12 15) (row 15 18 20)
    ∷ block (row 5 8 10) (row 10 12 15) (row 15 18 20)
    -- 5 alligator cracking
    ∷ block (row 5 10 15) (row 10 15 20) (row 15 20 25)
    -- 6 patching
    ∷ block (row 0 2 5) (row 5 7 10) (row 7 15 20)
    -- 7 longitudinal cracking: sealed, partly sealed, not sealed
    ∷ block (row 2 5 8) (row 5 8 10) (row 8 10 15)
    ∷ block (row 3 7 12) (row 7 12 15) (row 12 15 20)
    ∷ block (row 5 10 15) (row 10 15 20) (row 15 20 25)
    -- 8 transverse cracking: sealed, partly sealed, not sealed
    ∷ block (row 2 5 8) (row 5 8 10) (row 8 10 15)
    ∷ block (row 3 7 10) (row 7 10 15) (row 10 15 20)
    ∷ block (row 3 7 12) (row 7 12 15) (row 12 15 20)
    ∷ []

-- the number of the block, from 1, for a code and its seal; 0 where there is none: codes 1 to 6 have seal 0, codes 7 and 8 seals 1 to 3
unfoldable pub block_of : ℕ → ℕ → ℕ
block_of code seal =
    pick (between 1 6 code && eqb seal 0) code
    (pick (eqb code 7 && between 1 3 seal) (6 + seal)
    (pick (eqb code 8 && between 1 3 seal) (9 + seal)
    0))

-- degree 0 is no distress, and no points
unfoldable pub points_of : ℕ → ℕ → ℕ → ℕ
points_of block degree extent =
    pick (eqb degree 0) 0 (get_or (get_or (get_or deduct_points (block - 1) []) (degree - 1) []) (extent - 1) 0)

-- a refusal for every number that the table does not have
unfoldable pub survey_refusal : ℕ → ℕ → ℕ → ℕ → ℕ
survey_refusal code degree extent seal =
    unless (leb 1 (block_of code seal) && (leb degree 3 && between 1 3 extent)) no_such_points 0

unfoldable pub survey_of : ℕ → ℕ → ℕ → ℕ → Answer
survey_of code degree extent seal =
    answer_of (survey_refusal code degree extent seal) (points_of (block_of code seal) degree extent)
