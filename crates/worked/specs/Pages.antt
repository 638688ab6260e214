-- Pages worked out by an independent program (reference/): the test card's, one after phase 3, and one at the ends of the ranges.
use Rattle.std.specs.Prelude.{refl, List, [], ◌∷◌, replicate, pos}
use Rattle.rules.specs.Lists.{Load, Alter}
use Rattle.rules.specs.declared.Edit.TheVariants.{SetLimit}
use Rattle.rules.specs.Writer.{Roads, nothing_demanded, segment, district_of}
use Rattle.rules.specs.Results.{Paged, given, paged, printed, result_of, WorkedCase, ◌⇒◌, Agree}
use Rattle.rules.specs.Marked.{card}
use Rattle.rules.specs.Further.{four_segments}
use Rattle.rules.specs.Pages.{heading_line}

-- the greatest benefit, use and limit
abbrev pub widest : Roads
widest =
    record {
      years = 10;
      limits = replicate 4 999_999_999;
      greatest = replicate 9 50;
      strategies =
          record { requirements = replicate 4 999_999; gains = replicate 9 (pos 50); percents = replicate 9 (replicate 10 100) }
          ∷ [];
      pavements = nothing_demanded ∷ [];
      segments = segment 9999 200 [] ∷ [];
    }

abbrev pub pages : List WorkedCase
pages =
    -- the card, and with limit 59, where segment 1 gets nothing
    paged (Load card ∷ [])
    ⇒ printed
    (heading_line
    ∷ " 1  1.00  20  2        5250000        60                                        "
    ∷ " 2  2.00  20  1        3000000        40                                        "
    ∷ "                       8250000       100                                        "
    ∷ "                                     130                                        "
    ∷ [])
    ∷ paged (Load card ∷ Alter (SetLimit 1 59) ∷ [])
    ⇒ printed
    (heading_line
    ∷ " 1  1.00  20  0              0         0                                        "
    ∷ " 2  2.00  20  1        3000000        40                                        "
    ∷ "                       3000000        40                                        "
    ∷ "                                      59                                        "
    ∷ [])
    -- the total after phase 3, where phase 2 ends with 38,908,450
    ∷ given Paged (district_of four_segments)
    ⇒ printed
    (heading_line
    ∷ " 1  4.90  42  1       17595900       117                                        "
    ∷ " 2  6.13   5  2         300370        28                                        "
    ∷ " 3 45.43 167  0              0         0                                        "
    ∷ " 4 14.37  73  1       93676593       592                                        "
    ∷ "                     111572863       736                                        "
    ∷ "                                     746                                        "
    ∷ [])
    ∷ given Paged (district_of widest)
    ⇒ printed
    (heading_line
    ∷ " 1 99.99 200  1   899910000000  19997981  19997981  19997981  19997981          "
    ∷ "                  899910000000  19997981  19997981  19997981  19997981          "
    ∷ "                               999999999 999999999 999999999 999999999          "
    ∷ [])
    ∷ []

pub on_paper : Agree pages
unfolding result_of
on_paper = refl
