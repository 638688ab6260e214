use Prim.Native.Nat.{ℕ, ◌<◌}
use Rattle.phase3.specs.Memory.{PassedPair}
use Rattle.phase3.specs.Views.{table_at, leaders_at, choice_at, SearchingAt}
use Rattle.phase3.proofs.look.Look.first_with.Given as goal

abbrev pub invariant-loop-b : goal.invariant-loop-b
invariant-loop-b l =
    let p = l.self.pair.now in
    SearchingAt l.self l.row l.a × ((v : ℕ) → v < l.b → PassedPair (table_at l.self) (leaders_at l.self) (choice_at l.self) p.i p.k l.row l.a v)
