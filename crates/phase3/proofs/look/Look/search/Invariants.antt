use Rattle.phase3.specs.Views.{SearchingAt}
use Rattle.phase3.proofs.look.Look.search.Given as goal

abbrev pub invariant-loop-a : goal.invariant-loop-a
invariant-loop-a l = SearchingAt l.self l.row l.a
