-- `fill::fill_uses` meets its contract: row n is that of segment n / 12 + 1 and strategy n % 12.
use mathlib.Core.Path.{◌≡◌, ◌∙◌}
use mathlib.Core.List.{List, ◌++◌}
use Prim.Native.Nat.{ℕ, ◌+◌, ◌-◌, ◌*◌, ◌/◌, ◌%◌, ◌<◌}
use native.Mathlib.Omega.{arith}
use lib.ListN.{drop, length-take, length-drop}
use borrow.Rule.Slice.PartMut.{put_mid}
use Rattle.base.specs.Over.{listed, listed_from}
use Rattle.base.proofs.Listed.{fill_none, fill_part, listed_cong}
use Rattle.tables.specs.Arrays.{columns, use_entries}
use Rattle.rules.specs.District.{District, most_resources}
use Rattle.rules.specs.Table.{usage_in}
use Rattle.fill.specs.Lists.{usage_entry, usage_list}
use Rattle.fill.proofs.Front.{fill_front}
use Rattle.fill.proofs.Tables.{uses_past}
use Rattle.fill.proofs.fill_uses.Goals as goal

-- a row is the next part of the list
row_is : (d : District) (n : ℕ) → listed most_resources (usage_in d (n / columns + 1) (n % columns)) ≡ listed_from most_resources (0 + most_resources * n) (usage_entry d)
unfolding usage_entry
row_is d n = listed_cong most_resources 1 (0 + most_resources * n) (usage_in d (n / columns + 1) (n % columns)) (usage_entry d) same
  where
    same : (x : ℕ) → x < most_resources → usage_in d (n / columns + 1) (n % columns) (1 + x) ≡ usage_entry d (0 + most_resources * n + x)
    same x h =
        let i : n / columns + 1 ≡ (0 + most_resources * n + x) / (most_resources * columns) + 1 = omega arith in
        let j : n % columns ≡ (0 + most_resources * n + x) / most_resources % columns = omega arith in
        let r : 1 + x ≡ (0 + most_resources * n + x) % most_resources + 1 = omega arith in
        cc

next : (d : District) (table₀ table ys : List ℕ) (n : ℕ) → table ≡ listed_from (most_resources * n) 0 (usage_entry d) ++ drop (most_resources * n) table₀ → ys ≡ listed most_resources (usage_in d (n / columns + 1) (n % columns)) → put_mid (most_resources * n) (most_resources * n + most_resources - most_resources * n) table ys ≡ listed_from (most_resources * (n + 1)) 0 (usage_entry d) ++ drop (most_resources * (n + 1)) table₀
next d table₀ table ys n e y =
    let k : most_resources * n + most_resources - most_resources * n ≡ most_resources = omega arith in
    let m : most_resources * (n + 1) ≡ most_resources * n + most_resources = omega arith in
    rw (k, m, e) (fill_part (usage_entry d) (most_resources * n) most_resources 0 table₀ ys (y ∙ row_is d n))

pub loop-n-init : goal.loop-n-init
loop-n-init c = fill_none _ _ _

pub fill_row-requires : goal.fill_row-requires
fill_row-requires c =
    let few = c.args.d.in_range.segments in
    ((omega arith, omega arith), simp (length-take, length-drop) (omega arith))

pub loop-n-preserved : goal.loop-n-preserved
loop-n-preserved c =
    let l = c.loop-n in
    next c.args.d.district.now c.args.table.now l.table c.fill_row.new.row l.n l.invariant (rw (c.pair-i.ensures.segment, c.pair-i.ensures.strategy) at c.fill_row.ensures)

pub returns : goal.returns
unfolding usage_list
returns c =
    let l = c.loop-n in
    l.invariant ∙ fill_front (usage_entry _) (most_resources * l.n) use_entries 0 _ c.requires (omega arith) (λ x low high. uses_past _ (0 + x) (omega arith))
