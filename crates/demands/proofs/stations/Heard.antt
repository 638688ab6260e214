-- After any list of calls made by both: of each office's meter its own records were heard, and nothing else.
use Prim.Native.Nat.{ℕ, zero, suc}
use mathlib.Core.Path.{◌≡◌, refl, ap, ◌∙◌}
use mathlib.Core.Bool.{Bool, true, false}
use mathlib.Core.List.{List, [], ◌∷◌}
use Rattle.std.specs.Prelude.{None, Some}
use Rattle.base.specs.Choice.{pick}
use Rattle.rules.specs.Answers.{or_later, accepting}
use Rattle.rules.specs.Meter.{Heard, sent_refusal, hearing, heard_from, heard_after}
use Rattle.rules.specs.Offices.{Held, fresh_held, OfficeCall, Plan, Send, AskRoughness, office_refusal, office_outcome, sent_in}
use Rattle.rules.specs.Stations.{other, Both, own, office_of, fresh_both, StationCall, brings_tables, tables_refusal, refusal_beside, StationOutcome, concluded, station_outcome, station_from, station_after, made_by, calls_by}
use Rattle.rules.specs.declared.Sent.{Sent}
use Rattle.demands.proofs.stations.Calls.{named, neither, own_part, other_part, other_window, outcome_nobody, outcome_of_lem}
use Rattle.rules.specs.declared.Which.{Which}
use Rattle.rules.specs.declared.Which.TheVariants.{First, Second}

-- ---- one call

module _ (w : Which) (b : Both Held) where
  sent : (s : Sent) (n : ℕ) → sent_refusal s ≡ n → (own w (concluded (or_later n 0) w b (Send s)).held).heard ≡ hearing (own w b).heard s
  unfolding concluded office_outcome hearing accepting
  sent s zero e = rw own_part
  sent s (suc n) e = rw e

  idle : (c : OfficeCall) (n : ℕ) → (office_outcome (own w b) c).held.heard ≡ (own w b).heard → (own w (concluded n w b c).held).heard ≡ (own w b).heard
  unfolding concluded
  idle c zero same = rw own_part same
  idle c (suc n) same = refl

  -- its own, in front of the records of later calls
  own_heard :
      (c : OfficeCall) (cs : List OfficeCall)
      → heard_from (own w (concluded (refusal_beside (own w b) (own (other w) b) c) w b c).held).heard (sent_in cs) ≡ heard_from (own w b).heard (sent_in (c ∷ cs))
  unfolding sent_in heard_from refusal_beside office_refusal tables_refusal brings_tables office_outcome
  own_heard (Plan k) cs = ap (λ (h : Heard). heard_from h (sent_in cs)) (idle (Plan k) (refusal_beside (own w b) (own (other w) b) (Plan k)) refl)
  own_heard (Send s) cs = ap (λ (h : Heard). heard_from h (sent_in cs)) (sent s (sent_refusal s) refl)
  own_heard AskRoughness cs = ap (λ (h : Heard). heard_from h (sent_in cs)) (idle AskRoughness (refusal_beside (own w b) (own (other w) b) AskRoughness) refl)

  other_heard : (c : OfficeCall) (n : ℕ) → (own (other w) (concluded n w b c).held).heard ≡ (own (other w) b).heard
  unfolding concluded
  other_heard c zero = rw other_part (other_window (own w b) (own (other w) b) c)
  other_heard c (suc n) = refl

-- ---- a call of office v, of the other, or of none

abbrev next : Both Held → StationCall → Both Held
next b c = (station_outcome b c).held

module _ (v : Which) (b : Both Held) (c : StationCall) where
  by_itself :
      (cs : List OfficeCall) → office_of c.office ≡ Some v
      → heard_from (own v (next b c)).heard (sent_in cs) ≡ heard_from (own v b).heard (sent_in (c.call ∷ cs))
  by_itself cs e =
      ap (λ (x : StationOutcome). heard_from (own v x.held).heard (sent_in cs)) (outcome_of_lem v b c e) ∙ own_heard v b c.call cs

  by_nobody : office_of c.office ≡ None → (own v (next b c)).heard ≡ (own v b).heard
  by_nobody e = ap (λ (x : StationOutcome). (own v x.held).heard) (outcome_nobody b c e)

  -- made by it, of the other
  beside_it : office_of c.office ≡ Some v → (own (other v) (next b c)).heard ≡ (own (other v) b).heard
  beside_it e =
      ap (λ (x : StationOutcome). (own (other v) x.held).heard) (outcome_of_lem v b c e)
      ∙ other_heard v b c.call (refusal_beside (own v b) (own (other v) b) c.call)

by_the_other : (v : Which) (b : Both Held) (c : StationCall) → office_of c.office ≡ Some (other v) → (own v (next b c)).heard ≡ (own v b).heard
by_the_other First b c e = beside_it Second b c e
by_the_other Second b c e = beside_it First b c e

not_by : (v : Which) (b : Both Held) (c : StationCall) → made_by v c ≡ false → (own v (next b c)).heard ≡ (own v b).heard
not_by v b c e = go (made_by (other v) c) refl
  where
    go : (t : Bool) → made_by (other v) c ≡ t → (own v (next b c)).heard ≡ (own v b).heard
    go true f = by_the_other v b c (named (other v) c.office f)
    go false f = by_nobody v b c (neither v c.office e f)

-- ---- lists

heard_first :
    (v : Which) (b : Both Held) (c : StationCall) (cs : List StationCall)
    → (own v (station_from (next b c) cs)).heard ≡ heard_from (own v (next b c)).heard (sent_in (calls_by v cs))
    → (own v (station_from b (c ∷ cs))).heard ≡ heard_from (own v b).heard (sent_in (calls_by v (c ∷ cs)))
unfolding station_from calls_by
heard_first v b c cs later = go (made_by v c) refl
  where
    go : (t : Bool) → made_by v c ≡ t
        → (own v (station_from (next b c) cs)).heard ≡ heard_from (own v b).heard (sent_in (pick t (c.call ∷ calls_by v cs) (calls_by v cs)))
    go true e = later ∙ by_itself v b c (calls_by v cs) (named v c.office e)
    go false e = later ∙ ap (λ (h : Heard). heard_from h (sent_in (calls_by v cs))) (not_by v b c e)

heard_from_lem : (v : Which) (cs : List StationCall) (b : Both Held) → (own v (station_from b cs)).heard ≡ heard_from (own v b).heard (sent_in (calls_by v cs))
unfolding station_from calls_by sent_in heard_from
heard_from_lem v [] b = refl
heard_from_lem v (c ∷ cs) b = heard_first v b c cs (heard_from_lem v cs (next b c))

pub heard_after_lem : (v : Which) (cs : List StationCall) → (own v (station_after cs)).heard ≡ heard_after (sent_in (calls_by v cs))
unfolding station_after heard_after fresh_both fresh_held
heard_after_lem First cs = heard_from_lem First cs fresh_both
heard_after_lem Second cs = heard_from_lem Second cs fresh_both
