-- Events lead to what the console keeps, and what the bytes ahead lead to from there and from what stands of the line, all the bytes lead to from the
-- start.
use Rattle.std.proofs.Common.{drop}
use Rattle.panel.specs.Console.{State, KeepsState}
use Rattle.panel.specs.Lines.{ByEvents, Keeping}
use Rattle.panel.proofs.Feeds.{Ahead}
use Rattle.panel.proofs.feed.Given as goal

abbrev pub invariant-loop-byte : goal.invariant-loop-byte
invariant-loop-byte g l =
    ByEvents l.c
    × ((s : State) → KeepsState l.initial.c s → Keeping (Ahead s l.initial.line.items l.bytes l.line.items (drop l.byte-index l.bytes)) l.c)
