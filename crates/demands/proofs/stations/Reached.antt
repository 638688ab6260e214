-- After any list of calls made by both, each office's district is one that a list of calls on a unit alone leads to: its own calls, and for new tables
-- that the other brought a load of their file. A last call leads to the blocks that it chose too. So whatever holds after every list of a unit's calls
-- holds of each office.
use mathlib.Core.Path.{◌≡◌, refl, ◌∙◌}
use mathlib.Core.Bool.{Bool, true, false, not}
use mathlib.Core.List.{List, [], ◌∷◌, ◌++◌}
use Rattle.base.specs.Choice.{pick}
use Rattle.rules.specs.District.{District, fresh_district, shared_tables, same_tables}
use Rattle.rules.specs.File.{encode}
use Rattle.rules.specs.Answers.{accepting}
use Rattle.rules.specs.Calls.{district_in}
use Rattle.rules.specs.Blocks.{no_blocks}
use Rattle.rules.specs.Lists.{Call, Load, Alter, ChooseBlocks, ExportTo, PageTo, Show, AskWhy, refusal_of, altered, district_from, district_after, chosen, choice_from, choice_after}
use Rattle.rules.specs.Offices.{Plan}
use Rattle.rules.specs.Stations.{other, Both, own, StationCall, brings_tables, altered_both, districts_after}
use Rattle.demands.proofs.stations.Calls.{own_part, other_part}
use Rattle.demands.proofs.stations.Districts.{after_kept}
use Rattle.demands.proofs.stations.Files.{tables_read}
use Rattle.demands.proofs.stations.Lists.{each}
use Rattle.demands.proofs.stations.Rows.{OfRow}
use Rattle.rules.specs.declared.Choice.{Choice}
use Rattle.rules.specs.declared.Which.{Which}
use Rattle.rules.specs.declared.Which.TheVariants.{First}

-- a list of a unit's calls that leads to the district
pub record Reached (d : District) : Type 0 where
  pub calls : List Call
  pub leads : district_after calls ≡ d

-- and to a choice of blocks with it
pub record ReachedBy (x : Choice) (d : District) : Type 0 where
  pub calls : List Call
  pub leads : district_after calls ≡ d
  pub chooses : choice_after calls ≡ x

-- ---- one call more

from_more : (cs : List Call) (d : District) (k : Call) → district_from d (cs ++ k ∷ []) ≡ accepting (refusal_of (district_from d cs) k) (altered (district_from d cs) k) (district_from d cs)
unfolding district_from
from_more [] d k = refl
from_more (c ∷ cs) d k = from_more cs (accepting (refusal_of d c) (altered d c) d) k

choice_more :
    (cs : List Call) (d : District) (x : Choice) (k : Call)
    → choice_from d x (cs ++ k ∷ []) ≡ accepting (refusal_of (district_from d cs) k) (chosen (choice_from d x cs) k) (choice_from d x cs)
unfolding choice_from district_from
choice_more [] d x k = refl
choice_more (c ∷ cs) d x k = choice_more cs (accepting (refusal_of d c) (altered d c) d) (accepting (refusal_of d c) (chosen x c) x) k

fresh_reached : Reached fresh_district
unfolding district_after district_from
fresh_reached = record { calls = []; leads = refl }

-- one that is not refused
with_call : (d : District) (k : Call) → refusal_of d k ≡ 0 → Reached d → Reached (altered d k)
unfolding district_after accepting
with_call d k ok r = record { calls = r.calls ++ k ∷ []; leads = from_more r.calls fresh_district k ∙ rw (r.leads, ok) }

-- one that chooses blocks
pub reached_by : (x : Choice) (d : District) → OfRow x → Reached d → ReachedBy x d
unfolding district_after choice_after refusal_of altered chosen accepting
reached_by x d o r =
    let k = ChooseBlocks o.row in
    record {
      calls = r.calls ++ k ∷ [];
      leads = from_more r.calls fresh_district k ∙ r.leads;
      chooses = choice_more r.calls fresh_district no_blocks k ∙ o.is;
    }

-- of the other office, with district e, after a call that is not refused
beside : (d e : District) (k : Call) → refusal_of d k ≡ 0 → Reached e → Reached (pick (brings_tables d (Plan k)) (shared_tables (altered d k)) e)
unfolding brings_tables refusal_of altered
beside d e (Load file) ok r = go (not (same_tables d (district_in file)))
  where
    go : (t : Bool) → Reached (pick t (shared_tables (district_in file)) e)
    go true = rw (← (tables_read file ok).1) (with_call e (Load (encode (shared_tables (district_in file)))) (tables_read file ok).0 r)
    go false = r
beside d e (Alter x) ok r = r
beside d e (ChooseBlocks row) ok r = r
beside d e (ExportTo buffer) ok r = r
beside d e (PageTo buffer) ok r = r
beside d e Show ok r = r
beside d e (AskWhy i j) ok r = r

-- ---- lists

abbrev pub Each : Both District → Type 0
Each ds = (w : Which) → Reached (own w ds)

pub fresh_each : Each (record { first = fresh_district; second = fresh_district })
fresh_each = each _ First fresh_reached fresh_reached

pub next_reached : (w : Which) (ds : Both District) (k : Call) → refusal_of (own w ds) k ≡ 0 → Each ds → Each (altered_both w ds k)
next_reached w ds k ok r =
    each _ w
    (rw own_part (with_call (own w ds) k ok (r w)))
    (rw other_part (beside (own w ds) (own (other w) ds) k ok (r (other w))))

pub reached_after : (cs : List StationCall) (w : Which) → Reached (own w (districts_after cs))
reached_after cs = after_kept Each next_reached fresh_each cs
