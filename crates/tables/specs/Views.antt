-- What a view of a table lends: the rules' table, its leaders, and the drafts whose sums run along with it.
use Rattle.std.specs.Prelude.{ℕ}
use Rattle.rules.specs.Table.{Table}
use Rattle.tables.specs.declared.view.TableView.{TableView}
use Rattle.tables.specs.declared.draft.Draft.{Draft}
use Rattle.tables.specs.Arrays.{tables, leader_in, Running}

abbrev pub table_in : TableView → Table
table_in t = tables t.size t.benefits.entries.now t.uses.entries.now t.limits.entries.now

abbrev pub leaders_in : TableView → ℕ → ℕ
leaders_in t = leader_in t.leaders.entries.now

abbrev pub Drafted : TableView → Draft → Type 0
Drafted t d = Running t.size t.uses.entries.now d.choice d.sums
