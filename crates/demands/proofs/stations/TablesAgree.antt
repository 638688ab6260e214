-- After any list of calls made by both, the two districts have the same shared tables: a load brings its own to both, and no edit alters any.
use Prim.Native.Nat.{◌≤◌}
use mathlib.Core.Path.{◌≡◌, refl, sym, ◌∙◌}
use mathlib.Core.Bool.{Bool, true, false, not}
use Rattle.base.specs.Choice.{pick}
use Rattle.rules.specs.District.{District, most_resources, resources_of, shared_tables, same_tables}
use Rattle.rules.specs.Calls.{district_in}
use Rattle.rules.specs.Lists.{Call, Load, Alter, ChooseBlocks, ExportTo, PageTo, Show, AskWhy, refusal_of, altered, district_after}
use Rattle.rules.specs.Offices.{Plan}
use Rattle.rules.specs.Stations.{Both, own, brings_tables, altered_both}
use Rattle.rules.specs.StationDemands.{TablesAgree}
use Rattle.grammar.proofs.InRanges.{in_ranges}
use Rattle.demands.proofs.Lists.{after_in}
use Rattle.demands.proofs.stations.Districts.{after_kept}
use Rattle.demands.proofs.stations.Reached.{Reached, Each, fresh_each, next_reached}
use Rattle.shared.proofs.Tables.{tables_twice, same_tables_lem}
use Rattle.demands.proofs.stations.Shared.{edit_shared}
use Rattle.rules.specs.declared.Which.{Which}
use Rattle.rules.specs.declared.Which.TheVariants.{First, Second}

few : (d : District) → Reached d → resources_of d ≤ most_resources
few d r = rw r.leads at (in_ranges (district_after r.calls) (after_in r.calls)).resources

-- a call that is not refused, of an office whose district is d, beside e
module _ (d e : District) (same : shared_tables d ≡ shared_tables e) (reached : Reached d) where
  tables_next : (k : Call) → refusal_of d k ≡ 0 → shared_tables (altered d k) ≡ shared_tables (pick (brings_tables d (Plan k)) (shared_tables (altered d k)) e)
  unfolding brings_tables refusal_of altered
  tables_next (Load file) ok = go (same_tables d (district_in file)) refl
    where
      go : (t : Bool) → same_tables d (district_in file) ≡ t → shared_tables (district_in file) ≡ shared_tables (pick (not t) (shared_tables (district_in file)) e)
      go true q = sym (same_tables_lem d (district_in file) q) ∙ same
      go false q = sym (tables_twice (district_in file))
  tables_next (Alter x) ok = edit_shared d x (few d reached) ok ∙ same
  tables_next (ChooseBlocks row) ok = same
  tables_next (ExportTo buffer) ok = same
  tables_next (PageTo buffer) ok = same
  tables_next Show ok = same
  tables_next (AskWhy i j) ok = same

-- ---- lists

record Agreed (ds : Both District) : Type 0 where
  tables : shared_tables ds.first ≡ shared_tables ds.second
  reached : Each ds

next_tables :
    (w : Which) (ds : Both District) (k : Call) → refusal_of (own w ds) k ≡ 0 → Agreed ds
    → shared_tables (altered_both w ds k).first ≡ shared_tables (altered_both w ds k).second
next_tables First ds k ok a = tables_next ds.first ds.second a.tables (a.reached First) k ok
next_tables Second ds k ok a = sym (tables_next ds.second ds.first (sym a.tables) (a.reached Second) k ok)

pub tables_agree : TablesAgree
tables_agree cs =
    (after_kept Agreed
    (λ w ds k ok a. record { tables = next_tables w ds k ok a; reached = next_reached w ds k ok a.reached })
    (record { tables = refl; reached = fresh_each })
    cs
    ).tables
