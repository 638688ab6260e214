use Rattle.std.proofs.Common.{◌≡◌}
use Rattle.base.specs.Over.{listed_from}
use Rattle.script.specs.Script.{row_number}
use Rattle.script.proofs.row.Given as goal

-- the first of them are in the row
abbrev pub invariant-loop-n : goal.invariant-loop-n
invariant-loop-n l = l.row.items ≡ listed_from l.n 0 (row_number l.body)
