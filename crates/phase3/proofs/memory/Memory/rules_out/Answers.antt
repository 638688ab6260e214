-- `phase3::memory::Memory::rules_out` meets its contract.
use mathlib.Core.Path.{sym, ◌∙◌}
use native.Mathlib.Omega.{arith}
use Rattle.phase3.proofs.Rows.{still_none}
use Rattle.phase3.proofs.memory.Memory.rules_out.Goals as goal

pub returns-clause-still : goal.returns-clause-still
returns-clause-still c = rw c.place-n.ensures at c.holds_still.ensures

pub returns-clause-none : goal.returns-clause-none
returns-clause-none c = λ e.
    let pair = c.args.pair.now in
    let pass = pair.pass.now in
    record {
      is =
          sym (still_none _ c.requires pass.planning.now.running pass.slack pair.i pair.k (omega arith) (omega arith) (omega arith)
          (sym (rw c.place-n.ensures at c.holds_still.ensures) ∙ e));
      inside = tt;
    }
