-- Document 02, request 3: Table 1 from distinct blocks and a map.
use Rattle.std.specs.Prelude.{ℕ, ◌<◌, ◌≡◌, List, [], ◌∷◌, map, length, get_or}

-- no two blocks are equal
unfoldable pub Distinct : List (List (List ℕ)) → Type 0
Distinct blocks = (m n : ℕ) → m < n → n < length blocks → ¬ (get_or blocks m [] ≡ get_or blocks n [])

-- the map: which block, from 0, each distress has, and each seal where there are seals
unfoldable pub stored_as : List ℕ
stored_as =
    -- 1 rutting
    0
    -- 2 raveling, 3 flushing, 4 corrugations
    ∷ 1 ∷ 1 ∷ 1
    -- 5 alligator cracking
    ∷ 2
    -- 6 patching
    ∷ 3
    -- 7 longitudinal cracking: sealed, partly sealed, not sealed
    ∷ 4 ∷ 5 ∷ 2
    -- 8 transverse cracking: sealed, partly sealed, not sealed
    ∷ 4 ∷ 6 ∷ 5
    ∷ []

-- the table that the map makes of blocks
unfoldable pub table_from : List (List (List ℕ)) → List (List (List ℕ))
table_from blocks = map (λ n. get_or blocks n []) stored_as
