use Rattle.std.proofs.Common.{drop}
use Rattle.base.proofs.Buffers.{Written}
use Rattle.deck.specs.Printed.{numbers_line}
use Rattle.deck.proofs.put_numbers.Given as goal

-- what is written and what is to come is the whole line
abbrev pub invariant-loop-number : goal.invariant-loop-number
invariant-loop-number l = Written l.initial.out (numbers_line l.numbers) (numbers_line (drop l.number-index l.numbers)) l.at l.out
