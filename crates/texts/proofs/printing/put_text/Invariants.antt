use Rattle.std.proofs.Common.{◌-◌, ◌≡◌}
use Rattle.base.proofs.Buffers.{Written}
use Rattle.grammar.specs.Places.{start_of}
use Rattle.grammar.specs.Slots.{form_number}
use Rattle.rules.specs.Format.{file_records}
use Rattle.texts.specs.Printing.{records_text, text_of}
use Rattle.texts.proofs.printing.put_text.Given as goal

-- what is written and what is to come is the whole
abbrev pub invariant-loop-n : goal.invariant-loop-n
invariant-loop-n l =
    let form = form_number l.form in
    Written l.initial.out (text_of form l.d) (records_text form (file_records - l.n) l.d l.n l.place) l.at l.out × (l.place ≡ start_of l.n)
