-- The test card's programme, listed.
use mathlib.Core.List.{◌∷◌}
use mathlib.Core.Path.{◌≡◌, refl}
use lib.ListN.{replicate}
use Rattle.base.specs.Text.{text, digits_of, decimal}
use Rattle.rules.specs.declared.Programme.{Programme}
use Rattle.rules.specs.Answers.{Accepted, Refused}
use Rattle.listing.specs.Listing.{named, ended, line, lines_from, segment_line, steps_line, results, listing, pair_line, refusal, done, carried, stepped, valued, told, failed}
use Rattle.rules.specs.Meter.{points_at}

pub card : Programme
card =
    record {
      strategies = 2 ∷ 1 ∷ replicate 62 0;
      total = 8_250_000;
      after_pickups = 8_250_000;
      ceiling = 8_438_555;
      steps = 1;
      pickups = 0;
      changes = 0;
    }

pub card_listed : listing card 2 ≡ text "1 2\n2 1\nbenefit 8250000\nceiling 8438555\nsteps 1 0 0\n"
unfolding card text digits_of decimal named ended line lines_from segment_line steps_line results listing
card_listed = refl

-- the answers of calls, and the greatest number
pub answers_said : (done (Accepted 0) ≡ text "ok\n")
    × (done (Refused 6) ≡ text "refused 6\n")
    × (stepped 0 (Accepted 0) ≡ text "idle\n")
    × (stepped 1 (Accepted 0) ≡ text "console 1 ok\n")
    × (stepped 4 (Refused 6) ≡ text "console 4 refused 6\n")
    × (stepped 2 (Refused 14) ≡ text "console 2 refused 14\n")
    × (valued (text "ok ") (Accepted 87) ≡ text "ok 87\n")
    × (valued (text "points ") (Refused 10) ≡ text "refused 10\n")
    × (told (Accepted (points_at 20 4290847557)) ≡ text "points 20 marker 4290847557\n")
    × (told (Refused 13) ≡ text "refused 13\n")
    × (failed (text "cannot open ") (text "a b") ≡ text "cannot open a b\n")
    × (decimal 18446744073709551615 ≡ text "18446744073709551615")
unfolding text digits_of decimal named ended line pair_line refusal done carried stepped valued told failed
answers_said = (refl, refl, refl, refl, refl, refl, refl, refl, refl, refl, refl, refl)
