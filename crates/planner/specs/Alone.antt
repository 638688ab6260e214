-- A table made from a district, what the three phases come to over one by themselves, and from which programmes phases 2 and 3 can go on.
use Rattle.std.specs.Prelude.{ℕ, ◌≤◌, ◌<◌, ◌≡◌, List}
use Rattle.base.specs.Search.{Run}
use Rattle.rules.specs.District.{District, leader_of}
use Rattle.rules.specs.Table.{Table, table_of}
use Rattle.rules.specs.Phases.{strategy_at}
use Rattle.rules.specs.Plan.{reduced, ended}
use Rattle.laws.specs.Tables.{FitAlone, OfCandidates}
use Rattle.tables.specs.Views.{table_in, leaders_in}
use Rattle.tables.specs.declared.view.TableView.{TableView}
use Rattle.planner.specs.declared.Begun.{Begun}

-- the table and its leaders are the district's, and each candidate fits alone
pub record Holds (d : District) (t : TableView) : Type 0 where
  pub table : table_in t ≡ table_of d
  pub leaders : leaders_in t ≡ leader_of d
  pub fit : FitAlone (table_in t)

-- the programme in which the phases end, and how many steps phase 1 made
pub record Alone (t : Table) (leader : ℕ → ℕ) (p : Begun) : Type 0 where
  pub strategies : p.strategies ≡ ended t leader
  pub steps : p.steps ≡ (reduced t leader).count

abbrev pub run_of : Begun → Run (List ℕ)
run_of p = record { last = p.strategies; count = p.steps }

-- each segment has a candidate or nothing, and places past the segments hold nothing
pub record Placed (t : Table) (c : List ℕ) : Type 0 where
  pub candidates : OfCandidates t c
  pub past : (i : ℕ) → 1 ≤ i → t.segments < i → strategy_at c i ≡ 0
