-- How many bytes a listing has at most.
use Prim.Native.Nat.{ℕ, ◌+◌, ◌-◌, ◌*◌, ◌≤◌, min}
use mathlib.Core.List.{List, ◌++◌}
use native.Mathlib.Omega.{arith}
use lib.ListN.{length, get_or, length-append}
use Rattle.base.specs.Text.{text, most_digits, decimal}
use Rattle.base.proofs.Text.{decimal_few}
use Rattle.rules.specs.District.{most_segments}
use Rattle.rules.specs.declared.Programme.{Programme}
use Rattle.rules.specs.Answers.{Answer, Accepted, Refused}
use Rattle.listing.specs.Listing.{named, ended, line, segment_line, strategy_line, segment_lines, steps_line, results, listing, refusal, done, carried, pair_line, over_line, longest_line_of, longest_pair_of, longest_refusal, longest_stepped, longest_reason, longest_segment_line, longest_steps_line, longest_listing}
use Rattle.listing.proofs.Lines.{lines_few}

pub named_few : (word : List ℕ) (n : ℕ) → length (named word n) ≤ length word + most_digits
unfolding named
named_few word n = omega (arith, length-append word (decimal n), decimal_few n)

ended_few : (word : List ℕ) (n : ℕ) (end : List ℕ) → length (ended word n end) ≤ length word + most_digits + length end
unfolding ended
ended_few word n end = omega (arith, length-append (named word n) end, named_few word n)

line_few : (word : List ℕ) (n : ℕ) → length (line word n) ≤ longest_line_of (length word)
unfolding line text
line_few word n = ended_few word n (text "\n")

pub line_fits : (word : List ℕ) (n room : ℕ) → longest_line_of (length word) ≤ room → length (line word n) ≤ room
line_fits word n room h = omega (arith, line_few word n)

pub refusal_few : (n : ℕ) → length (refusal n) ≤ longest_refusal
unfolding refusal text
refusal_few n = line_few (text "refused ") n

done_few : (answer : Answer) → length (done answer) ≤ longest_refusal
unfolding done text
done_few (Accepted value) = omega arith
done_few (Refused n) = refusal_few n

-- a console, and with it any answer
pub console_fits : (n room : ℕ) → longest_stepped ≤ room → length (ended (text "console ") n (text " ")) + longest_refusal ≤ room
unfolding text
console_fits n room h = omega (arith, ended_few (text "console ") n (text " "))

pub carried_fits : (n : ℕ) (answer : Answer) (room : ℕ) → longest_stepped ≤ room → length (carried n answer) ≤ room
unfolding carried
carried_fits n answer room h = omega (arith, length-append (ended (text "console ") n (text " ")) (done answer), console_fits n room h, done_few answer)

pub pair_fits :
    (first : List ℕ) (a : ℕ) (second : List ℕ) (b room : ℕ) → longest_pair_of (length first) (length second) ≤ room
    → length (pair_line first a second b) ≤ room
unfolding pair_line
pair_fits first a second b room h =
    omega (arith, length-append (named first a) (line second b), named_few first a, line_few second b)

pub over_fits : (r : ℕ) (end : List ℕ) (room : ℕ) → length end ≤ 40 → longest_reason ≤ room → length (over_line r end) ≤ room
unfolding over_line text
over_fits r end room h few = omega (arith, ended_few (text "over limit ") r end)

segment_few : (i j : ℕ) → length (segment_line i j) ≤ longest_segment_line
unfolding segment_line text
segment_few i j = omega (arith, length-append (decimal i) (line (text " ") j), decimal_few i, line_few (text " ") j)

segments_few : (n i : ℕ) (strategies : List ℕ) → length (segment_lines n i strategies) ≤ longest_segment_line * n
segments_few n i strategies = lines_few n i (strategy_line strategies) longest_segment_line (λ k. segment_few k (get_or strategies (k - 1) 0))

steps_few : (p : Programme) → length (steps_line p) ≤ longest_steps_line
unfolding steps_line text
steps_few p =
    let a = named (text "steps ") p.steps in
    let b = named (text " ") p.pickups in
    let c = line (text " ") p.changes in
    omega (arith, length-append a (b ++ c), length-append b c, named_few (text "steps ") p.steps, named_few (text " ") p.pickups, line_few (text " ") p.changes)

results_few : (p : Programme) → length (results p) ≤ longest_line_of 8 + (longest_line_of 8 + longest_steps_line)
unfolding results text
results_few p =
    let a = line (text "benefit ") p.total in
    let b = line (text "ceiling ") p.ceiling in
    omega (arith, length-append a (b ++ steps_line p), length-append b (steps_line p), line_few (text "benefit ") p.total, line_few (text "ceiling ") p.ceiling, steps_few p)

pub listing_few : (p : Programme) (n : ℕ) → length (listing p n) ≤ longest_listing
unfolding listing
listing_few p n = omega (arith, length-append (segment_lines (min n most_segments) 1 p.strategies) (results p), segments_few (min n most_segments) 1 p.strategies, results_few p)
