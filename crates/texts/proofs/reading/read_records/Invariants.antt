use Rattle.std.proofs.Common.{[], ◌-◌, ◌≡◌, length, take}
use Rattle.grammar.specs.Places.{start_of}
use Rattle.grammar.specs.Slots.{form_number}
use Rattle.rules.specs.District.{district_places}
use Rattle.rules.specs.Format.{file_records}
use Rattle.texts.specs.Reading.{read_records}
use Rattle.texts.specs.Found.{lines_left, behind}
use Rattle.texts.proofs.reading.read_records.Given as goal

-- what is read in all is what is read from here on, after the records so far
abbrev pub invariant-loop-n : goal.invariant-loop-n
invariant-loop-n l =
    let form = form_number l.form in
    let last = behind l.lines in
    (read_records form last file_records 0 [] (lines_left l.lines) ≡ read_records form last (file_records - l.n) l.n (take l.place l.d) (lines_left l.rest))
    × (behind l.rest ≡ last) × (l.place ≡ start_of l.n) × (length l.d ≡ district_places)
