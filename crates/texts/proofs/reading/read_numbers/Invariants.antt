use Rattle.std.proofs.Common.{◌-◌, ◌≡◌, [], take, drop}
use Rattle.grammar.specs.Slots.{slot_in}
use Rattle.texts.specs.Words.{words_in}
use Rattle.texts.specs.Reading.{read_numbers}
use Rattle.texts.proofs.reading.read_numbers.Given as goal

-- what is read in all is what is read from here on, after the values so far
abbrev pub invariant-loop-i : goal.invariant-loop-i
invariant-loop-i l =
    let before = take l.place l.initial.d in
    (read_numbers l.s.places before (slot_in l.s) 0 [] (words_in l.line) ≡ read_numbers (l.s.places - l.i) before (slot_in l.s) l.i (take l.i (drop l.place l.d)) (words_in l.rest))
    × (take l.place l.d ≡ before)
