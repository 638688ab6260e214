-- What every call that is not refused keeps, of the districts of both offices, holds after any list of calls made by both.
use Prim.Native.Nat.{ℕ, zero, suc}
use mathlib.Core.Path.{◌≡◌, refl}
use mathlib.Core.List.{List, [], ◌∷◌}
use Rattle.std.specs.Prelude.{Option, None, Some}
use Rattle.rules.specs.District.{District, fresh_district}
use Rattle.rules.specs.Answers.{accepting}
use Rattle.rules.specs.Lists.{Call, refusal_of}
use Rattle.rules.specs.Offices.{OfficeCall, Plan, Send, AskRoughness}
use Rattle.rules.specs.Stations.{Both, own, office_of, StationCall, plan_refusal, altered_both, districts_by, districts_from, districts_after}
use Rattle.demands.proofs.stations.Calls.{earlier_none}
use Rattle.rules.specs.declared.Which.{Which}

module _
    (P : Both District → Type 0)
    (keeps : (w : Which) (ds : Both District) (k : Call) → refusal_of (own w ds) k ≡ 0 → P ds → P (altered_both w ds k))
  where
    next_kept : (o : Option Which) (ds : Both District) (c : OfficeCall) → P ds → P (districts_by o ds c)
    unfolding districts_by accepting
    next_kept None ds c p = p
    next_kept (Some w) ds (Plan k) p = go (plan_refusal w ds k) refl
      where
        go : (n : ℕ) → plan_refusal w ds k ≡ n → P (accepting n (altered_both w ds k) ds)
        go zero e = keeps w ds k (earlier_none _ _ e) p
        go (suc n) e = p
    next_kept (Some w) ds (Send s) p = p
    next_kept (Some w) ds AskRoughness p = p

    from_kept : (cs : List StationCall) (ds : Both District) → P ds → P (districts_from ds cs)
    unfolding districts_from
    from_kept [] ds p = p
    from_kept (c ∷ cs) ds p = from_kept cs (districts_by (office_of c.office) ds c.call) (next_kept (office_of c.office) ds c.call p)

    pub after_kept : P (record { first = fresh_district; second = fresh_district }) → (cs : List StationCall) → P (districts_after cs)
    unfolding districts_after
    after_kept p cs = from_kept cs (record { first = fresh_district; second = fresh_district }) p
