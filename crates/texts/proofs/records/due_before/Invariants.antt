use Rattle.std.proofs.Common.{◌+◌, ◌-◌, ◌≡◌}
use Rattle.grammar.specs.Slots.{slot_in}
use Rattle.texts.specs.Records.{due_in}
use Rattle.texts.proofs.records.due_before.Given as goal

-- what is counted and what is to come is the whole
abbrev pub invariant-loop-i : goal.invariant-loop-i
invariant-loop-i l = l.due + due_in (l.n - l.i) l.d (slot_in l.s) l.i ≡ due_in l.n l.d (slot_in l.s) 0
