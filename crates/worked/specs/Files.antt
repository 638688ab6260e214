-- Files given back: what is exported of the card and of a fresh unit, and what a buffer keeps. And files that are not turned down.
use Rattle.std.specs.Prelude.{ℕ, ◌≡◌, refl, List, [], ◌∷◌, map, take, set, replicate}
use Rattle.rules.specs.District.{fresh_district}
use Rattle.rules.specs.File.{encode}
use Rattle.rules.specs.Calls.{district_in, export_of}
use Rattle.rules.specs.Conversions.{down_refusal}
use Rattle.rules.specs.Lists.{Load, unit_after}
use Rattle.rules.specs.Results.{result_of}
use Rattle.rules.specs.Marked.{card}
use Rattle.rules.specs.Converted.{card_led}

-- no segment, one of everything else, greatest rating 1, all else 0
abbrev pub fresh_file : List ℕ
fresh_file =
    6 ∷ 0 ∷ 1 ∷ 0 ∷ 0 ∷ 1 ∷ 1 ∷ 1 ∷ 1 ∷ 1
    ∷ 4 ∷ 0 ∷ 2 ∷ 0 ∷ 0 ∷ 0 ∷ 0 ∷ 0
    ∷ 1 ∷ 0 ∷ 3 ∷ 0 ∷ 1
    ∷ 6 ∷ 0 ∷ 4 ∷ 0 ∷ 0 ∷ 0 ∷ 0 ∷ 0 ∷ 0 ∷ 0
    ∷ 3 ∷ 0 ∷ 5 ∷ 0 ∷ 0 ∷ 0 ∷ 0
    ∷ 0 ∷ 0 ∷ 7 ∷ 0
    ∷ []

-- the card; the fresh unit; a buffer that is one byte too short
pub given_back :
    encode (district_in card) ∷ encode fresh_district ∷ (export_of (unit_after (Load card ∷ [])) (replicate 86 255)).buffer ∷ []
    ≡ card ∷ fresh_file ∷ replicate 86 255 ∷ []
unfolding result_of
given_back = refl

-- a leader, where the last record is cut short or has another length
pub not_turned : map down_refusal (take 88 card_led ∷ set card_led 85 1 ∷ []) ≡ 1 ∷ 3 ∷ []
unfolding result_of down_refusal
not_turned = refl
