-- Document 02, request 2: pages worked out by an independent program (reference/), computed from these rules.
use Rattle.std.specs.Prelude.{◌≡◌, refl, List, [], ◌∷◌, ◌++◌, map, replicate, pos}
use Prim.Native.String.{String}
use Rattle.base.specs.Text.{text}
use Rattle.rules.specs.Page.{right_aligned}
use Rattle.rules.specs.Calls.{fresh_unit, page_of}
use Rattle.rules.specs.Writer.{Roads, strategy, nothing_demanded, segment, barring, district_of}
use Rattle.rules.specs.Results.{Paged, given, printed, result_of, WorkedCase, ◌⇒◌, Agree}
use Rattle.rules.specs.Answers.{Accepted, Refused}

abbrev pub heading_line : String
heading_line = "NO MILES  FT ST        BENEFIT        R1        R2        R3        R4          "

-- 0.01, 10.00 and 99.99 miles; the greatest width; a segment with nothing; a fifth resource, which has no column. The uses of the second and
-- the third resource, rounded up line by line, add up to 3 and 15.
abbrev pub five_resources : Roads
five_resources =
    record {
      years = 1;
      limits = 1000 ∷ 12 ∷ 300 ∷ 0 ∷ 999_999_999 ∷ [];
      greatest = 20 ∷ [];
      strategies =
          strategy (333 ∷ 1 ∷ 100 ∷ 0 ∷ 500 ∷ []) (pos 5) 100
          ∷ strategy (1000 ∷ 7 ∷ 250 ∷ 0 ∷ 900 ∷ []) (pos 8) 100
          ∷ [];
      pavements = nothing_demanded ∷ [];
      segments =
          segment 1000 3 []
          ∷ segment 1 200 []
          ∷ barring (2 ∷ []) (segment 250 21 [])
          ∷ barring (1 ∷ 2 ∷ []) (segment 9999 200 [])
          ∷ [];
    }

abbrev pub pages : List WorkedCase
pages =
    given Paged (district_of five_resources)
    ⇒ printed
    (heading_line
    ∷ " 1 10.00   3  2        2400000        30         1         8         0          "
    ∷ " 2  0.01 200  2         160000         2         1         1         0          "
    ∷ " 3  2.50  21  1        2625000        18         1         6         0          "
    ∷ " 4 99.99 200  0              0         0         0         0         0          "
    ∷ "                       5185000        50         1        14         0          "
    ∷ "                                    1000        12       300         0          "
    ∷ [])
    ∷ []

pub on_paper : Agree pages
unfolding result_of
on_paper = refl

-- one to spare, one that fills its column, one too wide for it, which no list of calls leads to
pub aligned : map (right_aligned 3) (text "12" ∷ text "123" ∷ text "1234" ∷ []) ≡ text " 12" ∷ text "123" ∷ text "***" ∷ []
unfolding text right_aligned
aligned = refl

-- of the fresh unit, which has no segment: a buffer with a byte to spare, which is left as it was, and one that is a byte too short
pub into_buffers :
    page_of fresh_unit (replicate 244 255) ∷ page_of fresh_unit (replicate 242 255) ∷ []
    ≡ record {
      answer = Accepted 243;
      buffer =
          text heading_line
          ++ text "\n                             0         0                                        "
          ++ text "\n                                       0                                        "
          ++ text "\n"
          ++ 255 ∷ [];
    }
    ∷ record { answer = Refused 11; buffer = replicate 242 255 }
    ∷ []
unfolding result_of
into_buffers = refl
