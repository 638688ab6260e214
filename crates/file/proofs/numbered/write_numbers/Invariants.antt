use Prim.Native.Nat.{◌+◌, ◌-◌}
use Rattle.base.proofs.Buffers.{Written}
use Rattle.rules.specs.File.{number_bytes}
use Rattle.grammar.specs.Slots.{numbered_in}
use Rattle.file.proofs.numbered.write_numbers.Given as goal

abbrev pub invariant-loop-i : goal.invariant-loop-i
invariant-loop-i l = Written l.initial.out (number_bytes l.slot.places l.d (numbered_in l.slot) 0 l.place) (number_bytes (l.slot.places - l.i) l.d (numbered_in l.slot) l.i (l.place + l.i)) l.at l.out
