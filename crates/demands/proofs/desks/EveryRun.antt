-- A run of events is the run of the calls that they make: what is held after it, and what is answered.
use Prim.Native.Nat.{ℕ, zero, suc}
use mathlib.Core.Path.{◌≡◌, refl, sym, ap, ap₂, ◌∙◌}
use mathlib.Core.List.{List, [], ◌∷◌, ◌++◌}
use Rattle.std.specs.Prelude.{Option, None, Some}
use Rattle.rules.specs.Lists.{Alter, lent_to, outcome_of}
use Rattle.rules.specs.Offices.{Held, Plan, lent_bytes, office_outcome}
use Rattle.rules.specs.Stations.{Both, own, other, office_of, StationCall, call_of, refusal_beside, concluded, outcome_for, station_outcome, station_from}
use Rattle.rules.specs.StationDemands.{nothing_more, unit_tells, office_tells, told_to, gets, got_from}
use Rattle.rules.specs.Desks.{Taken, taken, Desk, step_with, step_of, Event, Arrive, Step, Ask, desk_by, answer_to, desk_from, gathered, call_for, calls_at, calls_from}
use Rattle.rules.specs.DeskDemands.{Given, step_gives, gives, all_given, given_to, EveryRun}
use Rattle.rules.specs.declared.Edit.{Edit}
use Rattle.rules.specs.declared.Which.{Which}

-- ---- lists of calls, one after the other

station_then : (cs es : List StationCall) (b : Both Held) → station_from b (cs ++ es) ≡ station_from (station_from b cs) es
unfolding station_from
station_then [] es b = refl
station_then (c ∷ cs) es b = station_then cs es (station_outcome b c).held

given_then : (cs es : List StationCall) (b : Both Held) → all_given b (cs ++ es) ≡ all_given b cs ++ all_given (station_from b cs) es
unfolding all_given station_from
given_then [] es b = refl
given_then (c ∷ cs) es b =
    ap (λ (gs : List Given). record { office = c.office; got = gets b c } ∷ gs) (given_then cs es (station_outcome b c).held)

-- what of it goes to office w is what its calls get
pub given_got : (w : Which) (cs : List StationCall) (b : Both Held) → given_to w (all_given b cs) ≡ got_from w b cs
unfolding given_to all_given got_from
given_got w [] b = refl
given_got w (c ∷ cs) b = rw (given_got w cs (station_outcome b c).held)

-- ---- an edit carried out: it is lent no bytes, and tells nothing but its answer

module _ (b : Both Held) (e : Edit) where
  concluded_bytes : (w : Which) (r : ℕ) → (concluded r w b (Plan (Alter e))).bytes ≡ []
  unfolding concluded office_outcome outcome_of lent_bytes lent_to
  concluded_bytes w zero = refl
  concluded_bytes w (suc r) = refl

  outcome_bytes : (o : Option Which) → (outcome_for o b (Plan (Alter e))).bytes ≡ []
  unfolding lent_bytes lent_to
  outcome_bytes None = refl
  outcome_bytes (Some w) = concluded_bytes w (refusal_beside (own w b) (own (other w) b) (Plan (Alter e)))

  edit_tells : (o : Option Which) → told_to o b (Plan (Alter e)) ≡ nothing_more
  unfolding office_tells unit_tells
  edit_tells None = refl
  edit_tells (Some w) = refl

  edit_gets : (n : ℕ) → let c = call_of n (Plan (Alter e)) in gets b c ≡ record { answer = (station_outcome b c).answer; bytes = []; told = nothing_more }
  unfolding gets station_outcome
  edit_gets n = rw (outcome_bytes (office_of n), edit_tells (office_of n))

-- ---- one event

module _ (d : Desk) where
  step_held : (x : Option Taken) → (step_with d x).desk.held ≡ station_from d.held (call_for x)
  unfolding station_from
  step_held None = refl
  step_held (Some t) = refl

  event_held : (e : Event) → (desk_by d e).held ≡ station_from d.held (calls_at d e)
  unfolding desk_by calls_at station_from step_of
  event_held (Arrive n w) = refl
  event_held Step = step_held (taken d.queues)
  event_held (Ask c) = refl

  step_given : (x : Option Taken) → step_gives x (step_with d x).answer ≡ all_given d.held (call_for x)
  unfolding all_given
  step_given None = refl
  step_given (Some t) = rw (edit_gets d.held t.waiting.edit t.waiting.office)

  event_given : (e : Event) → gives d e ≡ all_given d.held (calls_at d e)
  unfolding gives calls_at all_given step_of answer_to
  event_given (Arrive n w) = refl
  event_given Step = step_given (taken d.queues)
  event_given (Ask c) = refl

-- ---- one event after another

run_held : (es : List Event) (d : Desk) → (desk_from d es).held ≡ station_from d.held (calls_from d es)
unfolding desk_from gathered station_from
run_held [] d = refl
run_held (e ∷ es) d =
    run_held es (desk_by d e)
    ∙ ap (λ (b : Both Held). station_from b (calls_from (desk_by d e) es)) (event_held d e)
    ∙ sym (station_then (calls_at d e) (calls_from (desk_by d e) es) d.held)

run_given : (es : List Event) (d : Desk) → gathered gives d es ≡ all_given d.held (calls_from d es)
unfolding gathered all_given
run_given [] d = refl
run_given (e ∷ es) d =
    ap₂ ◌++◌ (event_given d e) (run_given es (desk_by d e) ∙ ap (λ (b : Both Held). all_given b (calls_from (desk_by d e) es)) (event_held d e))
    ∙ sym (given_then (calls_at d e) (calls_from (desk_by d e) es) d.held)

pub every_run : EveryRun
every_run d es = record { held = run_held es d; given = run_given es d }
