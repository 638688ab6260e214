-- A district by names, its file byte for byte by document 01, "The district and its file", and its numbers as a district holds them. The computed
-- cases are written so. It does not go by Format and File, which are what the cases try.
use Rattle.std.specs.Prelude.{ℕ, zero, suc, ◌+◌, ◌-◌, ◌*◌, ◌/◌, ◌%◌, ◌^◌, length, take, replicate, ℤ, pos, negsuc}
use mathlib.Core.List.{List, [], ◌∷◌, ◌++◌, map, foldr}
use Rattle.rules.specs.District.{District, most_segments, most_strategies, most_years, most_distresses, most_pavements, most_resources, per_strategy, per_pavement, per_segment}

-- Of a strategy, a pavement type and a segment, numbers at the end of a row that are 0 need not be written.

pub record Strategy : Type 0 where
  -- of each resource, in thousandths of a unit
  pub requirements : List ℕ
  -- of each distress type
  pub gains : List ℤ
  -- of each distress type a row, with a percent for each year
  pub percents : List (List ℕ)

pub record Pavement : Type 0 where
  pub overall : ℕ
  -- of each distress type a row, with a minimum rating for each year
  pub minima : List (List ℕ)

pub record Segment : Type 0 where
  pub pavement : ℕ
  pub traffic : ℕ
  pub environment : ℕ
  pub length : ℕ
  pub width : ℕ
  -- the numbers of the strategies that are barred
  pub barred : List ℕ
  -- of each distress type
  pub ratings : List ℕ

-- a district; N, S, D, Y and R follow from how many there are of each
pub record Roads : Type 0 where
  pub years : ℕ
  -- of each resource, in whole units
  pub limits : List ℕ
  -- of each distress type, its greatest rating
  pub greatest : List ℕ
  pub strategies : List Strategy
  pub pavements : List Pavement
  pub segments : List Segment

-- ---- what is usual

-- −n
abbrev pub minus : ℕ → ℤ
minus zero = pos 0
minus (suc n) = negsuc n

-- for one distress type and one year: requirements, gain, percent
abbrev pub strategy : List ℕ → ℤ → ℕ → Strategy
strategy requirements gain percent =
    record { requirements = requirements; gains = gain ∷ []; percents = (percent ∷ []) ∷ [] }

abbrev pub nothing_demanded : Pavement
nothing_demanded = record { overall = 0; minima = [] }

-- of a length and a width, with these ratings: pavement type 1, both indexes 100, nothing barred
abbrev pub segment : ℕ → ℕ → List ℕ → Segment
segment length width ratings =
    record { pavement = 1; traffic = 100; environment = 100; length = length; width = width; barred = []; ratings = ratings }

-- the same with strategies barred
abbrev pub barring : List ℕ → Segment → Segment
barring strategies s =
    record {
      pavement = s.pavement;
      traffic = s.traffic;
      environment = s.environment;
      length = s.length;
      width = s.width;
      barred = strategies;
      ratings = s.ratings;
    }

-- ---- bytes

-- low byte first
abbrev pub two_bytes : ℕ → List ℕ
two_bytes x = x % 256 ∷ x / 256 ∷ []

abbrev pub four_bytes : ℕ → List ℕ
four_bytes x = x % 256 ∷ x / 256 % 256 ∷ x / 65_536 % 256 ∷ x / 16_777_216 ∷ []

abbrev pub signed_byte : ℤ → ℕ
signed_byte (pos n) = n
signed_byte (negsuc n) = 255 - n

-- what f gives for each, in a row
abbrev pub each : {A : Type 0} → (A → List ℕ) → List A → List ℕ
each f xs = foldr (λ x rest. f x ++ rest) [] xs

-- n in all, the last ones `none` where they are not written
abbrev pub filled_up : {A : Type 0} → A → ℕ → List A → List A
filled_up none n xs = take n (xs ++ replicate n none)

-- bit j − 1 for strategy j
abbrev pub mask : List ℕ → ℕ
mask strategies = foldr (λ j rest. 2 ^ (j - 1) + rest) 0 strategies

-- ---- records: the payload's length, the kind, the payload

abbrev pub record_of : ℕ → List ℕ → List ℕ
record_of kind payload = two_bytes (length payload) ++ two_bytes kind ++ payload

module _ (d : Roads) where
  -- a row for each distress type, a byte for each year
  abbrev pub rows : List (List ℕ) → List ℕ
  rows xs = each (filled_up 0 d.years) (filled_up [] (length d.greatest) xs)

  abbrev pub strategy_record : Strategy → List ℕ
  strategy_record s =
      record_of 4
      (each four_bytes (filled_up 0 (length d.limits) s.requirements)
      ++ each (λ g. signed_byte g ∷ []) (filled_up (pos 0) (length d.greatest) s.gains)
      ++ rows s.percents)

  abbrev pub pavement_record : Pavement → List ℕ
  pavement_record p = record_of 5 (two_bytes p.overall ++ rows p.minima)

  abbrev pub segment_bytes : Segment → List ℕ
  segment_bytes s =
      s.pavement ∷ []
      ++ two_bytes s.traffic
      ++ two_bytes s.environment
      ++ two_bytes s.length
      ++ s.width ∷ []
      ++ two_bytes (mask s.barred)
      ++ filled_up 0 (length d.greatest) s.ratings

  abbrev pub count_bytes : List ℕ
  count_bytes =
      length d.segments
      ∷ length d.strategies
      ∷ d.years
      ∷ length d.greatest
      ∷ length d.pavements
      ∷ length d.limits
      ∷ []

  -- the records between the first and the segments
  abbrev pub table_records : List ℕ
  table_records =
      record_of 2 (each four_bytes d.limits)
      ++ record_of 3 d.greatest
      ++ each strategy_record d.strategies
      ++ each pavement_record d.pavements

  -- the file
  unfoldable pub file_of : List ℕ
  file_of = record_of 1 count_bytes ++ table_records ++ each (λ s. record_of 6 (segment_bytes s)) d.segments ++ record_of 7 []

  -- document 02, request 8: each segment with its leader behind it, and kind 8 in front
  abbrev pub led_records : List Segment → List ℕ → List ℕ
  led_records [] leaders = []
  led_records (s ∷ ss) [] = []
  led_records (s ∷ ss) (l ∷ ls) = record_of 6 (segment_bytes s ++ l ∷ []) ++ led_records ss ls

  unfoldable pub file_with_leaders : List ℕ → List ℕ
  file_with_leaders leaders = record_of 8 count_bytes ++ table_records ++ led_records d.segments leaders ++ record_of 7 []

-- ---- the numbers of the district, each at its place: for cases that are not about files. `Written` compares them with what the file loads as.

abbrev pub row_places : List (List ℕ) → List ℕ
row_places xs = each (filled_up 0 most_years) (filled_up [] most_distresses xs)

abbrev pub strategy_places : Strategy → List ℕ
strategy_places s =
    filled_up 0 most_resources s.requirements
    ++ filled_up 0 most_distresses (map signed_byte s.gains)
    ++ row_places s.percents

abbrev pub pavement_places : Pavement → List ℕ
pavement_places p = p.overall ∷ row_places p.minima

abbrev pub segment_places : Segment → ℕ → List ℕ
segment_places s leader =
    s.pavement ∷ s.traffic ∷ s.environment ∷ s.length ∷ s.width ∷ mask s.barred
    ∷ (filled_up 0 most_distresses s.ratings ++ leader ∷ [])

-- leaders at the end that are 0 need not be written
abbrev pub led_places : List Segment → List ℕ → List ℕ
led_places [] leaders = []
led_places (s ∷ ss) [] = segment_places s 0 ++ led_places ss []
led_places (s ∷ ss) (l ∷ ls) = segment_places s l ++ led_places ss ls

unfoldable pub district_with_leaders : Roads → List ℕ → District
district_with_leaders d leaders =
    count_bytes d
    ++ filled_up 0 most_resources d.limits
    ++ filled_up 0 most_distresses d.greatest
    ++ filled_up 0 (per_strategy * most_strategies) (each strategy_places d.strategies)
    ++ filled_up 0 (per_pavement * most_pavements) (each pavement_places d.pavements)
    ++ filled_up 0 (per_segment * most_segments) (led_places d.segments leaders)

abbrev pub district_of : Roads → District
district_of d = district_with_leaders d []
