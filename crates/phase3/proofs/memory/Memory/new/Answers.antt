-- `phase3::memory::Memory::new` meets its contract: every line is made of rows that hold for none.
use mathlib.Core.Path.{◌≡◌, refl}
use mathlib.Core.List.{[]}
use lib.ListN.{replicate}
use Rattle.std.proofs.Common.{rules}
use Rattle.std.specs.Prelude.{None}
use Rattle.base.proofs.Made.{made_at}
use Rattle.rules.specs.District.{most_segments, most_resources}
use Rattle.phase3.specs.declared.memory.Row.{Row}
use Rattle.phase3.proofs.Rows.{remembers_start}
use Rattle.phase3.proofs.memory.Memory.new.Goals as goal

pub returns : goal.returns
returns c = λ t leader many.
    let row : Row = record { holds_for = None; excesses = replicate most_resources 0 } in
    let lines = c.from_fn.ensures.items in
    remembers_start t leader row refl many lines.long
    (λ i under. made_at (λ x y. y ≡ replicate most_segments row) (λ x y f below called. (search rules, search rules)) lines i [] under)
