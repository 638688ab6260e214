use Rattle.std.proofs.Common.{◌-◌, ◌≡◌}
use Rattle.grammar.specs.Slots.{slot_in}
use Rattle.texts.specs.Places.{number_place}
use Rattle.texts.proofs.refused.number_place.Given as goal

-- the place in all is that of the numbers from here on
abbrev pub invariant-loop-i : goal.invariant-loop-i
invariant-loop-i l = number_place l.s.places l.p l.d (slot_in l.s) 0 l.bytes ≡ number_place (l.s.places - l.i) l.p l.d (slot_in l.s) l.i l.rest
