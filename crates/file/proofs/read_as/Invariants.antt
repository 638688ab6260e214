use Prim.Native.Nat.{◌-◌}
use mathlib.Core.Path.{◌≡◌}
use lib.ListN.{length, take}
use Rattle.rules.specs.District.{district_places}
use Rattle.rules.specs.File.{read_records, decode_as}
use Rattle.rules.specs.Format.{file_records}
use Rattle.grammar.specs.Places.{start_of}
use Rattle.grammar.specs.Slots.{form_number}
use Rattle.file.proofs.read_as.Given as goal

abbrev pub invariant-loop-n : goal.invariant-loop-n
invariant-loop-n l =
    let form = form_number l.form in
    (decode_as form l.file ≡ read_records form (file_records - l.n) l.n (take (start_of l.n) l.d) l.rest) × (length l.d ≡ district_places)
