-- A form of the code has a form's number.
use mathlib.Core.Path.{refl}
use mathlib.Core.Logic.{inl, inr}
use Rattle.grammar.specs.Places.{Form}
use Rattle.grammar.specs.Slots.{form_number}
use Rattle.grammar.specs.declared.kinds.Form.{Form as Named}
use Rattle.grammar.specs.declared.kinds.Form.TheVariants.{Plain, Leaders}

pub is_form : (form : Named) → Form (form_number form)
is_form Plain = inl refl
is_form Leaders = inr refl
