-- `phase3::look::Look::search` meets its contract: no first strategy that the loop passed counts.
use mathlib.Core.Path.{sym}
use native.Mathlib.Omega.{arith}
use Rattle.phase3.proofs.Remembered.{searching_none, searching_holds}
use Rattle.phase3.proofs.look.Look.search.Goals as goal

pub returns : goal.returns
returns c =
    let g = c.loop-a.invariant in
    record {
      found = record { is = sym (searching_none _ _ _ _ _ g (omega arith)); inside = tt };
      holds = searching_holds _ _ _ _ _ g (omega arith);
    }

pub returns-in_default-clause-found : goal.returns-in_default-clause-found
returns-in_default-clause-found c = record { is = sym (searching_none _ _ _ _ _ c.in_default.ensures (omega arith)); inside = tt }

pub returns-in_default-clause-holds : goal.returns-in_default-clause-holds
returns-in_default-clause-holds c = searching_holds _ _ _ _ _ c.in_default.ensures (omega arith)
