-- The code's records of a file, and its forms and kinds, as the rules' Format numbers them.
use Rattle.std.specs.Prelude.{ℕ}
use Rattle.rules.specs.Format.{plain_form, leader_form, slot, Slot}
use Rattle.grammar.specs.declared.kinds.Form.{Form}
use Rattle.grammar.specs.declared.kinds.Form.TheVariants.{Plain, Leaders}
use Rattle.grammar.specs.declared.kinds.Kind.{Kind}
use Rattle.grammar.specs.declared.kinds.Kind.TheVariants.{Counts, Limits, Greatest, Strategy, Pavement, Segment, End}
use Rattle.grammar.specs.declared.kinds.Slot.{Slot as Record}
use Rattle.grammar.specs.declared.numbered.Slot.{Slot as Numbered}

abbrev pub form_number : Form → ℕ
form_number Plain = plain_form
form_number Leaders = leader_form

-- the first record's kind is the form's number
abbrev pub kind_number : Form → Kind → ℕ
kind_number form Counts = form_number form
kind_number form Limits = 2
kind_number form Greatest = 3
kind_number form Strategy = 4
kind_number form Pavement = 5
kind_number form Segment = 6
kind_number form End = 7

abbrev pub slot_in : Record → Slot
slot_in s = slot (form_number s.form) (kind_number s.form s.kind) s.places s.nth

-- a record whose form and kind are numbers in the code too
abbrev pub numbered_in : Numbered → Slot
numbered_in s = slot s.form s.kind s.places s.nth
