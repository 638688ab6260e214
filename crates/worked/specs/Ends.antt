-- Every number of the file at both ends of its range, and one past them; and records that are not the ones due.
use Rattle.std.specs.Prelude.{ℕ, ◌+◌, ◌≡◌, refl, List, [], ◌∷◌, ◌++◌, map, length, take, drop, replicate, pos}
use Rattle.base.specs.Over.{listed}
use Rattle.rules.specs.Calls.{load_refusal}
use Rattle.rules.specs.Writer.{Roads, minus, strategy, nothing_demanded, segment, two_bytes, four_bytes, signed_byte, file_of, file_with_leaders}
use Rattle.rules.specs.Results.{result_of}
use Rattle.rules.specs.Marked.{card}

-- every number at its least, but for the segments: of these there may be none
abbrev pub least : Roads
least =
    record {
      years = 1;
      limits = 0 ∷ [];
      greatest = 1 ∷ [];
      strategies = strategy (0 ∷ []) (minus 50) 0 ∷ [];
      pavements = nothing_demanded ∷ [];
      segments = segment 1 1 (0 ∷ []) ∷ [];
    }

abbrev pub no_segment : Roads
no_segment =
    record {
      years = 1;
      limits = 0 ∷ [];
      greatest = 1 ∷ [];
      strategies = strategy (0 ∷ []) (pos 0) 0 ∷ [];
      pavements = nothing_demanded ∷ [];
      segments = [];
    }

-- every number at its greatest: 64 segments with all of 11 strategies barred, 10 years, 9 distress types, 4 pavement types, 16 resources
abbrev pub greatest : Roads
greatest =
    record {
      years = 10;
      limits = replicate 16 999_999_999;
      greatest = replicate 9 50;
      strategies =
          replicate 11
          (record { requirements = replicate 16 999_999; gains = replicate 9 (pos 50); percents = replicate 9 (replicate 10 100) });
      pavements = replicate 4 (record { overall = 450; minima = replicate 9 (replicate 10 50) });
      segments =
          replicate 64
          (record {
            pavement = 4;
            traffic = 1_000;
            environment = 1_000;
            length = 9_999;
            width = 200;
            barred = listed 11 (λ j. j);
            ratings = replicate 9 50;
          });
    }

-- the card's file with other bytes from a place on
abbrev pub put : ℕ → List ℕ → List ℕ
put place bytes = take place card ++ bytes ++ drop (place + length bytes) card

abbrev pub past : List (List ℕ)
past =
    -- kind 1: N, S, T, D, Y, R
    put 4 (65 ∷ [])
    ∷ put 5 (0 ∷ []) ∷ put 5 (12 ∷ [])
    ∷ put 6 (0 ∷ []) ∷ put 6 (11 ∷ [])
    ∷ put 7 (0 ∷ []) ∷ put 7 (10 ∷ [])
    ∷ put 8 (0 ∷ []) ∷ put 8 (5 ∷ [])
    ∷ put 9 (0 ∷ []) ∷ put 9 (17 ∷ [])
    -- kind 2: limit; kind 3: greatest rating
    ∷ put 14 (four_bytes 1_000_000_000)
    ∷ put 22 (0 ∷ []) ∷ put 22 (51 ∷ [])
    -- kind 4, the first and the second: requirement, gains −51 and 51, percents of two years
    ∷ put 27 (four_bytes 1_000_000) ∷ put 38 (four_bytes 1_000_000)
    ∷ put 31 (signed_byte (minus 51) ∷ []) ∷ put 42 (signed_byte (pos 51) ∷ [])
    ∷ put 32 (101 ∷ []) ∷ put 33 (101 ∷ []) ∷ put 44 (101 ∷ [])
    -- kind 5: overall requirement, minimum ratings of two years
    ∷ put 49 (two_bytes 451) ∷ put 51 (51 ∷ []) ∷ put 52 (51 ∷ [])
    -- kind 6, the first and the second: pavement type, traffic index, environment index, length, width, bars, rating
    ∷ put 57 (0 ∷ []) ∷ put 57 (2 ∷ [])
    ∷ put 58 (two_bytes 99) ∷ put 58 (two_bytes 1_001)
    ∷ put 60 (two_bytes 99) ∷ put 60 (two_bytes 1_001)
    ∷ put 62 (two_bytes 0) ∷ put 77 (two_bytes 10_000)
    ∷ put 64 (0 ∷ []) ∷ put 79 (201 ∷ [])
    ∷ put 65 (two_bytes 4) ∷ put 65 (two_bytes 256)
    ∷ put 67 (21 ∷ []) ∷ put 82 (21 ∷ [])
    ∷ []

abbrev pub not_due : List (List ℕ)
not_due =
    -- counts that ask for another record, or for another length
    put 4 (64 ∷ []) ∷ put 5 (11 ∷ []) ∷ put 6 (10 ∷ []) ∷ put 7 (9 ∷ []) ∷ put 8 (4 ∷ []) ∷ put 9 (16 ∷ [])
    -- high bytes of a length and of a kind; the last record's length; the end before it and within it
    ∷ put 1 (1 ∷ []) ∷ put 3 (1 ∷ []) ∷ put 83 (1 ∷ []) ∷ take 83 card ∷ take 86 card
    -- two mistakes in two records: a limit and a kind after it, a count and a kind after it
    ∷ (take 17 card ++ 255 ∷ drop 18 (put 20 (9 ∷ [])))
    ∷ (take 4 card ++ 65 ∷ drop 5 (put 12 (9 ∷ [])))
    ∷ []

pub ends :
    map load_refusal (file_of least ∷ file_of no_segment ∷ file_of greatest ∷ past ++ not_due)
    ≡ 0 ∷ 0 ∷ 0 ∷ replicate 38 4 ++ 2 ∷ 2 ∷ 3 ∷ 3 ∷ 2 ∷ 3 ∷ 3 ∷ 2 ∷ 3 ∷ 1 ∷ 1 ∷ 4 ∷ 4 ∷ []
unfolding result_of
ends = refl

-- of 64 segments the last may have any of the others for its leader, and not itself
abbrev pub last_leader : ℕ → List ℕ
last_leader leader =
    file_with_leaders
    (record {
      years = 1;
      limits = 0 ∷ [];
      greatest = 1 ∷ [];
      strategies = strategy (0 ∷ []) (pos 0) 0 ∷ [];
      pavements = nothing_demanded ∷ [];
      segments = replicate 64 (segment 1 1 (0 ∷ []));
    })
    (replicate 63 0 ++ leader ∷ [])

pub last_leaders : map load_refusal (last_leader 63 ∷ last_leader 64 ∷ []) ≡ 0 ∷ 4 ∷ []
unfolding result_of
last_leaders = refl
