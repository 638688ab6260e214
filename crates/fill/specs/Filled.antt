-- What filled arrays hold: the district's leaders and its table; and of a table its shares, at the places of the uses.
-- The lists stand one by one, and not as the record of the arrays: leader_in and tables take lists, and so do the phases' laws.
use Rattle.std.specs.Prelude.{ℕ, ◌≤◌, ◌≡◌, List, get_or}
use Rattle.rules.specs.District.{District, leader_of}
use Rattle.rules.specs.Table.{Table, table_of}
use Rattle.laws.specs.Tables.{FitAlone}
use Rattle.tables.specs.declared.Size.{Size}
use Rattle.tables.specs.Arrays.{use_entry, tables, leader_in, Leaders, Tabled}

pub record Filled (d : District) (z : Size) (ls b u l : List ℕ) : Type 0 where
  pub leader : leader_in ls ≡ leader_of d
  pub leaders : Leaders ls
  pub table : tables z b u l ≡ table_of d
  pub tabled : Tabled z b u l
  pub fit : FitAlone (tables z b u l)

-- the shares of each strategy on each segment of table t, and of nothing
pub record SharesBy (share : Table → ℕ → ℕ → ℕ → ℕ) (t : Table) (s : List ℕ) : Type 0 where
  pub each : (i j r : ℕ) → 1 ≤ i → i ≤ t.segments → j ≤ t.strategies → 1 ≤ r → r ≤ t.resources → get_or s (use_entry i j r) 0 ≡ share t i j r
