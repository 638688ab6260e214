use Prim.Native.Nat.{◌+◌, ◌-◌}
use Rattle.base.proofs.Buffers.{Written}
use Rattle.rules.specs.File.{number_bytes}
use Rattle.grammar.specs.Slots.{slot_in}
use Rattle.file.proofs.records.Placed.write_numbers.Given as goal

abbrev pub invariant-loop-i : goal.invariant-loop-i
invariant-loop-i l = Written l.initial.out (number_bytes l.self.slot.places l.d (slot_in l.self.slot) 0 l.self.place) (number_bytes (l.self.slot.places - l.i) l.d (slot_in l.self.slot) l.i (l.self.place + l.i)) l.at l.out
