-- Events always lead to what the console keeps.
use Rattle.panel.specs.Lines.{ByEvents}
use Rattle.panel.proofs.listen.Given as goal

abbrev pub invariant-loop : goal.invariant-loop
invariant-loop g l = ByEvents l.c
