-- `fill::fill_benefits` meets its contract: behind what is filled the entries are 0.
use mathlib.Core.Path.{◌≡◌, ◌∙◌, ap}
use mathlib.Core.List.{List, ◌++◌}
use Prim.Native.Nat.{ℕ, ◌+◌, ◌*◌}
use native.Mathlib.Omega.{arith}
use lib.ListN.{length, take, drop, length-take}
use Rattle.std.proofs.Common.{rules}
use Rattle.base.specs.Over.{listed_from}
use Rattle.rules.specs.District.{segments_of}
use Rattle.tables.specs.Arrays.{columns, entries}
use Rattle.fill.specs.Lists.{benefit_entry, benefit_list}
use Rattle.fill.proofs.Front.{fill_front}
use Rattle.fill.proofs.Tables.{benefits_past}
use Rattle.fill.proofs.fill_benefits.Goals as goal

pub returns : goal.returns
unfolding benefit_list benefit_entry
returns c =
    let d = c.args.d.district.now in
    let end = columns * segments_of d in
    let few = c.args.d.in_range.segments in
    let part : length (take end c.args.table.now) ≡ end = length-take end c.args.table.now ∙ omega arith in
    ap (λ (front : List ℕ). front ++ drop end c.args.table.now) (c.fill_each.ensures (benefit_entry d) (λ n v h e. search rules) ∙ ap (λ k. listed_from k 0 (benefit_entry d)) part)
    ∙ fill_front (benefit_entry d) end entries 0 _ c.requires (omega arith) (λ x low high. benefits_past _ (0 + x) (omega arith))
