-- After any list of calls made by both, the blocks that each office chose are those of a row.
use Prim.Native.Nat.{ℕ, zero, suc}
use mathlib.Core.Path.{◌≡◌, refl}
use mathlib.Core.List.{List, [], ◌∷◌}
use Rattle.std.specs.Prelude.{Option, None, Some}
use Rattle.rules.specs.District.{District, fresh_district}
use Rattle.rules.specs.Answers.{accepting}
use Rattle.rules.specs.Blocks.{choice_of, no_blocks}
use Rattle.rules.specs.Lists.{Call, Load, Alter, ChooseBlocks, ExportTo, PageTo, Show, AskWhy, chosen}
use Rattle.rules.specs.Offices.{OfficeCall, Plan, Send, AskRoughness}
use Rattle.rules.specs.Stations.{other, Both, own, together, office_of, StationCall, plan_refusal, districts_by, choices_by, choices_from, choices_after}
use Rattle.rules.specs.declared.Choice.{Choice}
use Rattle.demands.proofs.stations.Calls.{own_part, other_part}
use Rattle.demands.proofs.stations.Lists.{each}
use Rattle.rules.specs.declared.Which.{Which}
use Rattle.rules.specs.declared.Which.TheVariants.{First}

pub record OfRow (x : Choice) : Type 0 where
  pub row : List ℕ
  pub is : choice_of row ≡ x

of_none : OfRow no_blocks
unfolding no_blocks
of_none = record { row = []; is = refl }

of_chosen : (x : Choice) (c : Call) → OfRow x → OfRow (chosen x c)
unfolding chosen
of_chosen x (Load file) r = of_none
of_chosen x (Alter e) r = r
of_chosen x (ChooseBlocks row) r = record { row = row; is = refl }
of_chosen x (ExportTo buffer) r = r
of_chosen x (PageTo buffer) r = r
of_chosen x Show r = r
of_chosen x (AskWhy i j) r = r

abbrev Rows : Both Choice → Type 0
Rows xs = (w : Which) → OfRow (own w xs)

next_rows : (o : Option Which) (ds : Both District) (xs : Both Choice) (c : OfficeCall) → Rows xs → Rows (choices_by o ds xs c)
unfolding choices_by accepting
next_rows None ds xs c rows = rows
next_rows (Some w) ds xs (Plan k) rows = go (plan_refusal w ds k)
  where
    go : (n : ℕ) → Rows (accepting n (together w (chosen (own w xs) k) (own (other w) xs)) xs)
    go zero = each _ w (rw own_part (of_chosen (own w xs) k (rows w))) (rw other_part (rows (other w)))
    go (suc n) = rows
next_rows (Some w) ds xs (Send s) rows = rows
next_rows (Some w) ds xs AskRoughness rows = rows

from_rows : (cs : List StationCall) (ds : Both District) (xs : Both Choice) → Rows xs → Rows (choices_from ds xs cs)
unfolding choices_from
from_rows [] ds xs rows = rows
from_rows (c ∷ cs) ds xs rows =
    let o = office_of c.office in
    from_rows cs (districts_by o ds c.call) (choices_by o ds xs c.call) (next_rows o ds xs c.call rows)

pub rows_after : (cs : List StationCall) → Rows (choices_after cs)
unfolding choices_after
rows_after cs =
    from_rows cs (record { first = fresh_district; second = fresh_district }) (record { first = no_blocks; second = no_blocks })
    (each _ First of_none of_none)
