-- Survey points: every entry of Table 1 as document 01 prints it, in one list, and the numbers that the table does not have.
use Rattle.std.specs.Prelude.{ℕ, ◌≡◌, refl, List, [], ◌∷◌, ◌++◌, map, replicate}
use Rattle.base.specs.Over.{listed}
use Rattle.rules.specs.Survey.{survey_of}
use Rattle.rules.specs.Results.{result_of}
use Rattle.rules.specs.Answers.{Answer, Accepted, Refused}

-- what is printed for a code and a seal: degrees 1 to 3, extents 1 to 3 of each
pub record Block : Type 0 where
  pub code : ℕ
  pub seal : ℕ
  pub entries : List ℕ

abbrev pub block : ℕ → ℕ → List ℕ → Block
block code seal entries = record { code = code; seal = seal; entries = entries }

abbrev pub blocks : List Block
blocks =
    -- 1 rutting
    block 1 0 (0 ∷ 2 ∷ 5 ∷ 5 ∷ 7 ∷ 10 ∷ 10 ∷ 12 ∷ 15 ∷ [])
    -- 2 raveling, 3 flushing, 4 corrugations
    ∷ block 2 0 (5 ∷ 8 ∷ 10 ∷ 10 ∷ 12 ∷ 15 ∷ 15 ∷ 18 ∷ 20 ∷ [])
    ∷ block 3 0 (5 ∷ 8 ∷ 10 ∷ 10 ∷ 12 ∷ 15 ∷ 15 ∷ 18 ∷ 20 ∷ [])
    ∷ block 4 0 (5 ∷ 8 ∷ 10 ∷ 10 ∷ 12 ∷ 15 ∷ 15 ∷ 18 ∷ 20 ∷ [])
    -- 5 alligator cracking
    ∷ block 5 0 (5 ∷ 10 ∷ 15 ∷ 10 ∷ 15 ∷ 20 ∷ 15 ∷ 20 ∷ 25 ∷ [])
    -- 6 patching
    ∷ block 6 0 (0 ∷ 2 ∷ 5 ∷ 5 ∷ 7 ∷ 10 ∷ 7 ∷ 15 ∷ 20 ∷ [])
    -- 7 longitudinal cracking
    ∷ block 7 1 (2 ∷ 5 ∷ 8 ∷ 5 ∷ 8 ∷ 10 ∷ 8 ∷ 10 ∷ 15 ∷ [])
    ∷ block 7 2 (3 ∷ 7 ∷ 12 ∷ 7 ∷ 12 ∷ 15 ∷ 12 ∷ 15 ∷ 20 ∷ [])
    ∷ block 7 3 (5 ∷ 10 ∷ 15 ∷ 10 ∷ 15 ∷ 20 ∷ 15 ∷ 20 ∷ 25 ∷ [])
    -- 8 transverse cracking
    ∷ block 8 1 (2 ∷ 5 ∷ 8 ∷ 5 ∷ 8 ∷ 10 ∷ 8 ∷ 10 ∷ 15 ∷ [])
    ∷ block 8 2 (3 ∷ 7 ∷ 10 ∷ 7 ∷ 10 ∷ 15 ∷ 10 ∷ 15 ∷ 20 ∷ [])
    ∷ block 8 3 (3 ∷ 7 ∷ 12 ∷ 7 ∷ 12 ∷ 15 ∷ 12 ∷ 15 ∷ 20 ∷ [])
    ∷ []

-- extents 1 to 3 of a degree
abbrev pub extents : Block → ℕ → List Answer
extents b degree = listed 3 (λ extent. survey_of b.code degree extent b.seal)

abbrev pub answers : Block → List Answer
answers b = extents b 0 ++ extents b 1 ++ extents b 2 ++ extents b 3

-- degree 0 is 0 points at each extent
abbrev pub printed : Block → List Answer
printed b = map (λ x. Accepted x) (0 ∷ 0 ∷ 0 ∷ b.entries)

-- code, degree, extent and seal
abbrev pub unprinted : List Answer
unprinted =
    -- a seal where there is none, at degree 0 too
    listed 6 (λ code. survey_of code 1 1 1)
    ++ listed 6 (λ code. survey_of code 3 3 3)
    ++ listed 6 (λ code. survey_of code 0 1 2)
    -- seals 0 and 4 of the codes that have seals
    ++ survey_of 7 1 1 0 ∷ survey_of 8 1 1 0 ∷ survey_of 7 3 3 4 ∷ survey_of 8 3 3 4 ∷ survey_of 7 0 1 0 ∷ survey_of 8 0 1 4
    -- codes 0 and 9, with a seal and without
    ∷ survey_of 0 1 1 0 ∷ survey_of 0 1 1 1 ∷ survey_of 9 1 1 0 ∷ survey_of 9 1 1 1
    -- degree 4, extents 0 and 4
    ∷ survey_of 1 4 1 0 ∷ survey_of 8 4 3 3 ∷ survey_of 1 1 0 0 ∷ survey_of 7 1 0 1 ∷ survey_of 1 1 4 0 ∷ survey_of 8 3 4 3 ∷ survey_of 1 0 0 0
    ∷ survey_of 1 0 4 0
    -- what would be in range in a byte
    ∷ survey_of 257 1 1 0 ∷ survey_of 1 257 1 0 ∷ survey_of 1 1 257 0 ∷ survey_of 7 1 1 257
    ∷ []

pub points : unprinted ∷ map answers blocks ≡ replicate 40 (Refused 10) ∷ map printed blocks
unfolding result_of
points = refl
