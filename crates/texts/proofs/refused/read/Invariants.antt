use Rattle.std.proofs.Common.{◌+◌, ◌-◌, ◌≤◌, ◌≡◌, length, take}
use Rattle.grammar.specs.Places.{start_of}
use Rattle.grammar.specs.Slots.{form_number}
use Rattle.rules.specs.District.{district_places}
use Rattle.rules.specs.File.{read_records, decode_as}
use Rattle.rules.specs.Format.{file_records}
use Rattle.texts.specs.Places.{places_from, place_in}
use Rattle.texts.proofs.refused.read.Given as goal

-- where the file is refused, and what it is read as, is so from here on, after the records so far
abbrev pub invariant-loop-n : goal.invariant-loop-n
invariant-loop-n l =
    let form = form_number l.form in
    let before = take (start_of l.n) l.d in
    (place_in l.file ≡ places_from form (file_records - l.n) l.n l.p before l.rest)
    × (decode_as form l.file ≡ read_records form (file_records - l.n) l.n before l.rest)
    × (length l.d ≡ district_places) × (l.p ≤ l.n + 1)
