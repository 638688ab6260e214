use lib.ListN.{length}
use Rattle.command.proofs.Blocks.{Stands}
use Rattle.command.proofs.read_blocks.Given as goal

-- those that are read, and what is still to be read, are all
abbrev pub invariant-loop-due : goal.invariant-loop-due
invariant-loop-due l = Stands l.each l.bytes l.row.items l.rest l.due

abbrev pub decreases-loop-due : goal.decreases-loop-due
decreases-loop-due l = length l.rest
