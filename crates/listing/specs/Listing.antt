-- What the programs print.
use Rattle.std.specs.Prelude.{ℕ, zero, suc, ◌+◌, ◌-◌, ◌*◌, min, List, [], ◌++◌, eqb, get_or, Option, None, Some, Result}
use Rattle.base.specs.Choice.{pick}
use Rattle.base.specs.Text.{text, most_digits, decimal}
use Rattle.rules.specs.District.{most_segments, segments_of}
use Rattle.rules.specs.declared.Unit.{Unit}
use Rattle.rules.specs.declared.Programme.{Programme}
use Rattle.rules.specs.Answers.{Answer, Accepted, Refused, Answered, answer_in}
use Rattle.rules.specs.Desks.{console_number}
use Rattle.rules.specs.declared.Console.{Console}
use Rattle.rules.specs.declared.refusals.Refusal.{Refusal}
use Rattle.rules.specs.declared.Reason.{Reason}
use Rattle.rules.specs.declared.Reason.TheVariants.{InProgramme, Barred, MinimumMissed, OverallMissed, NoBenefit, LeaderHasNothing, OverAlone, OverBeside, NoGreaterTotal}
use Rattle.rules.specs.Calls.{Why}
use Rattle.rules.specs.declared.Roughness.{Roughness}

-- a word and a number, the same with an end behind them, and as a line
unfoldable pub named : List ℕ → ℕ → List ℕ
named word n = word ++ decimal n

unfoldable pub ended : List ℕ → ℕ → List ℕ → List ℕ
ended word n end = named word n ++ end

unfoldable pub line : List ℕ → ℕ → List ℕ
line word n = ended word n (text "\n")

-- two numbers in a line, each behind its word
unfoldable pub pair_line : List ℕ → ℕ → List ℕ → ℕ → List ℕ
pair_line first a second b = named first a ++ line second b

-- n lines, of the numbers from i on
unfoldable pub lines_from : ℕ → ℕ → (ℕ → List ℕ) → List ℕ
lines_from zero i line_of = []
lines_from (suc n) i line_of = line_of i ++ lines_from n (i + 1) line_of

-- ---- a programme

unfoldable pub segment_line : ℕ → ℕ → List ℕ
segment_line i j = decimal i ++ line (text " ") j

-- of segment i, by what each gets
abbrev pub strategy_line : List ℕ → ℕ → List ℕ
strategy_line strategies i = segment_line i (get_or strategies (i - 1) 0)

abbrev pub segment_lines : ℕ → ℕ → List ℕ → List ℕ
segment_lines n i strategies = lines_from n i (strategy_line strategies)

unfoldable pub steps_line : Programme → List ℕ
steps_line p = named (text "steps ") p.steps ++ (named (text " ") p.pickups ++ line (text " ") p.changes)

unfoldable pub results : Programme → List ℕ
results p = line (text "benefit ") p.total ++ (line (text "ceiling ") p.ceiling ++ steps_line p)

-- of a district of n segments; a programme has places for the most segments
unfoldable pub listing : Programme → ℕ → List ℕ
listing p n = segment_lines (min n most_segments) 1 p.strategies ++ results p

-- the unit's own
unfoldable pub shown : Unit → List ℕ
shown u = listing u.programme (segments_of u.district)

-- ---- the answer to a call

unfoldable pub refusal : ℕ → List ℕ
refusal n = line (text "refused ") n

-- what is printed where nothing refuses it, else the refusal
unfoldable pub or_refusal : ℕ → List ℕ → List ℕ
or_refusal zero bytes = bytes
or_refusal (suc n) bytes = refusal (suc n)

-- of one that has nothing to tell
unfoldable pub done : Answer → List ℕ
done (Accepted value) = text "ok\n"
done (Refused n) = refusal n

-- of an edit that a step carried out, with the number of its console
unfoldable pub carried : ℕ → Answer → List ℕ
carried n answer = ended (text "console ") n (text " ") ++ done answer

-- of a step; 0 for the number says that no edit waited
unfoldable pub stepped : ℕ → Answer → List ℕ
stepped n answer = pick (eqb n 0) (text "idle\n") (carried n answer)

-- of what a step gives: the console and the edit's answer, or nothing
abbrev pub stepped_in : Option (Console × Result ℕ Refusal) → List ℕ
stepped_in None = stepped 0 (Accepted 0)
stepped_in (Some s) = stepped (console_number s.0) (answer_in s.1)

-- of a call, with the unit's programme where it is accepted
unfoldable pub planned : Answer → Unit → List ℕ
planned (Accepted value) u = shown u
planned (Refused n) u = refusal n

-- of a call that has a value, with the word before it
unfoldable pub valued : List ℕ → Answer → List ℕ
valued word (Accepted value) = line word value
valued word (Refused n) = refusal n

-- why: of a reason, a line with what it names
unfoldable pub over_line : ℕ → List ℕ → List ℕ
over_line r end = ended (text "over limit ") r end

unfoldable pub reason_line : Reason → List ℕ
reason_line InProgramme = text "in the programme\n"
reason_line Barred = text "barred\n"
reason_line (MinimumMissed k t) = pair_line (text "minimum rating missed: distress ") k (text ", year ") t
reason_line OverallMissed = text "overall requirement missed\n"
reason_line NoBenefit = text "benefit not above 0\n"
reason_line LeaderHasNothing = text "the leader has nothing\n"
reason_line (OverAlone r) = over_line r (text " alone\n")
reason_line (OverBeside r) = over_line r (text " beside the others\n")
reason_line NoGreaterTotal = text "fits, but the total would be no greater\n"

unfoldable pub explained : Why → List ℕ
explained (Accepted reason) = reason_line reason
explained (Refused n) = refusal n

-- roughness: the points, and the bits of the last marker
unfoldable pub told : Answered Roughness → List ℕ
told (Accepted r) = pair_line (text "points ") r.points (text " marker ") r.marker
told (Refused n) = refusal n

-- what could not be done, and with which file
unfoldable pub failed : List ℕ → List ℕ → List ℕ
failed what path = what ++ (path ++ text "\n")

-- ---- how many bytes they have at most

-- a line with a word of n bytes
abbrev pub longest_line_of : ℕ → ℕ
longest_line_of n = n + most_digits + 1

abbrev pub longest_refusal : ℕ
longest_refusal = longest_line_of 8

-- of a step: its word, the number and a blank, and a refusal
abbrev pub longest_stepped : ℕ
longest_stepped = 8 + most_digits + 1 + longest_refusal

-- with two words, of m and n bytes
abbrev pub longest_pair_of : ℕ → ℕ → ℕ
longest_pair_of m n = m + most_digits + longest_line_of n

abbrev pub longest_reason : ℕ
longest_reason = longest_pair_of 32 7

abbrev pub longest_roughness : ℕ
longest_roughness = longest_pair_of 7 8

abbrev pub longest_segment_line : ℕ
longest_segment_line = most_digits + longest_line_of 1

abbrev pub longest_steps_line : ℕ
longest_steps_line = 6 + most_digits + (1 + most_digits + longest_line_of 1)

abbrev pub longest_listing : ℕ
longest_listing = longest_segment_line * most_segments + (longest_line_of 8 + (longest_line_of 8 + longest_steps_line))
