use Rattle.std.proofs.Common.{◌+◌, ◌-◌}
use Rattle.base.proofs.Buffers.{Written}
use Rattle.grammar.specs.Slots.{slot_in}
use Rattle.texts.specs.Printing.{numbers_text}
use Rattle.texts.proofs.printing.put_numbers.Given as goal

-- what is written and what is to come is the whole
abbrev pub invariant-loop-i : goal.invariant-loop-i
invariant-loop-i l = Written l.initial.out (numbers_text l.s.places l.d (slot_in l.s) 0 l.place) (numbers_text (l.s.places - l.i) l.d (slot_in l.s) l.i (l.place + l.i)) l.at l.out
