use Prim.Native.Nat.{◌-◌, ◌≤◌}
use mathlib.Core.Path.{◌≡◌}
use mathlib.Core.List.{[]}
use lib.ListN.{length, take, drop}
use Rattle.rules.specs.File.{widths, read_numbers}
use Rattle.grammar.specs.Slots.{slot_in}
use Rattle.file.proofs.records.Placed.read_numbers.Given as goal

abbrev pub invariant-loop-i : goal.invariant-loop-i
invariant-loop-i l =
    let p = l.self in
    let before = take p.place l.initial.d in
    (read_numbers p.slot.places before (slot_in p.slot) 0 [] l.file ≡ read_numbers (p.slot.places - l.i) before (slot_in p.slot) l.i (take l.i (drop p.place l.d)) l.rest)
    × (widths (p.slot.places - l.i) before (slot_in p.slot) l.i ≤ length l.rest)
    × (take p.place l.d ≡ before)
