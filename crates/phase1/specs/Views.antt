-- What phase 1 takes, of a view of a table and an array of its shares.
use Rattle.std.specs.Prelude.{ℕ, List}
use Rattle.tables.specs.declared.view.TableView.{TableView}
use Rattle.phase1.specs.Reduce.{Shares, Held}

abbrev pub SharesIn : TableView → List ℕ → Type 0
SharesIn t s = Shares t.size t.benefits.entries.now t.uses.entries.now t.limits.entries.now s

abbrev pub HeldIn : TableView → List ℕ → List ℕ → Type 0
HeldIn t s c = Held t.size t.benefits.entries.now t.uses.entries.now t.limits.entries.now s c
