-- Calls that leave what both hold as it is: what they answer, to an office or to none.
use Prim.Native.Nat.{ℕ, zero, suc}
use mathlib.Core.Path.{◌≡◌, refl, sym, ap, ◌∙◌}
use mathlib.Core.Bool.{false}
use mathlib.Core.List.{List, []}
use Rattle.std.specs.Prelude.{Option, None, Some}
use Rattle.rules.specs.District.{District}
use Rattle.rules.specs.Answers.{no_such_office, answer_of, Answer, Answered, Accepted, Refused}
use Rattle.rules.specs.Calls.{Export, export_of, page_of, explained, show_of, why_of, Why}
use Rattle.rules.specs.Lists.{Call, ExportTo, PageTo, Show, AskWhy, lent_to, written, outcome_of}
use Rattle.rules.specs.Meter.{points_unless, roughness_of}
use Rattle.rules.specs.Offices.{Held, OfficeCall, Plan, AskRoughness, lent_bytes, planned, office_outcome}
use Rattle.rules.specs.Stations.{Both, own, office_number, office_of, call_of, brings_tables, station_outcome}
use Rattle.rules.specs.declared.Programme.{Programme}
use Rattle.rules.specs.declared.Unit.{Unit}
use Rattle.demands.proofs.stations.Calls.{outcome_nobody}
use Rattle.demands.proofs.stations.EveryStationAnswer.{both_stay}
use Rattle.station.specs.Kept.{office_in, KeepsBoth, ReportsBoth, units_in, Lends}
use Rattle.station.specs.Questions.{shown_for, why_for, roughness_for, without_value}
use Rattle.station.specs.declared.Station.{Station}
use Rattle.station.proofs.Numbers.{some_named, named_some}
use Rattle.station.proofs.Units.{unit_in}
use Rattle.rules.specs.declared.Roughness.{Roughness}
use Rattle.rules.specs.declared.Which.{Which}
use Rattle.rules.specs.declared.Which.TheVariants.{First, Second}

module _ (b : Both Held) (n : ℕ) (c : OfficeCall) where
  -- to none
  pub told_nobody : office_of n ≡ None → station_outcome b (call_of n c) ≡ record { answer = Refused no_such_office; held = b; bytes = lent_bytes c }
  told_nobody e = outcome_nobody b (call_of n c) e

  module _ (brings : (d : District) → brings_tables d c ≡ false) where
    -- to office w
    pub told_named :
        (w : Which) → n ≡ office_number w → (answer : Answer) (bytes : List ℕ)
        → office_outcome (own w b) c ≡ record { answer = answer; held = own w b; bytes = bytes }
        → station_outcome b (call_of n c) ≡ record { answer = answer; held = b; bytes = bytes }
    told_named w named answer bytes out =
        ap (λ (m : ℕ). station_outcome b (call_of m c)) named
        ∙ both_stay w b c (brings (own w b).unit.district) answer bytes out

    told :
        (answer : Option Which → Answer) → answer None ≡ Refused no_such_office
        → ((w : Which) → office_outcome (own w b) c ≡ record { answer = answer (Some w); held = own w b; bytes = lent_bytes c })
        → station_outcome b (call_of n c) ≡ record { answer = answer (office_of n); held = b; bytes = lent_bytes c }
    told answer to_none to = go (office_of n) refl
      where
        go : (o : Option Which) → office_of n ≡ o → station_outcome b (call_of n c) ≡ record { answer = answer o; held = b; bytes = lent_bytes c }
        go None e = rw to_none (told_nobody e)
        go (Some w) e = told_named w (some_named n w e) _ _ (to w)

module _ (s : Station) (n : ℕ) (w : Which) (named : n ≡ office_number w) (buffer : List ℕ) (answer : Answer) (bytes : List ℕ) where
  abbrev made : Export
  made = record { answer = answer; buffer = bytes }

  -- a call that writes something of the unit into a buffer
  wrote :
      (c : Call) (writes : Unit → Export) → ((d : District) → brings_tables d (Plan c) ≡ false) → ((u : Unit) → outcome_of u c ≡ written (writes u) u)
      → made ≡ writes (office_in w s).unit → Lends s n c answer bytes
  unfolding office_outcome
  wrote c writes brings out e =
      let o = own w (units_in s) in
      told_named (units_in s) n (Plan c) brings w named answer bytes
      (ap (planned o.heard) (out o.unit ∙ ap (λ (x : Export). written x o.unit) (sym (rw unit_in at e))))

  pub export_told : made ≡ export_of (office_in w s).unit buffer → Lends s n (ExportTo buffer) answer bytes
  unfolding brings_tables outcome_of
  export_told e = wrote (ExportTo buffer) (λ u. export_of u buffer) (λ d. refl) (λ u. refl) e

  pub page_told : made ≡ page_of (office_in w s).unit buffer → Lends s n (PageTo buffer) answer bytes
  unfolding brings_tables outcome_of
  page_told e = wrote (PageTo buffer) (λ u. page_of u buffer) (λ d. refl) (λ u. refl) e

-- ---- show, why and the question for roughness

alone : {A : Type 0} (n : ℕ) (value : A) → answer_of n 0 ≡ without_value (answer_of n value)
unfolding answer_of without_value
alone zero value = refl
alone (suc n) value = refl

module _ (b : Both Held) (n : ℕ) where
  show_told : station_outcome b (call_of n (Plan Show)) ≡ record { answer = without_value (shown_for (office_of n) b); held = b; bytes = [] }
  unfolding brings_tables shown_for without_value office_outcome outcome_of lent_bytes lent_to
  show_told = told b n (Plan Show) (λ d. refl) (λ o. without_value (shown_for o b)) refl (λ w. refl)

  why_told :
      (i j : ℕ) → station_outcome b (call_of n (Plan (AskWhy i j))) ≡ record { answer = without_value (why_for (office_of n) b i j); held = b; bytes = [] }
  unfolding brings_tables why_for why_of explained without_value office_outcome outcome_of lent_bytes lent_to
  why_told i j =
      told b n (Plan (AskWhy i j)) (λ d. refl) (λ o. without_value (why_for o b i j)) refl
      (λ w. ap (λ (a : Answer). record { answer = a; held = own w b; bytes = [] }) (alone _ _))

  roughness_told : station_outcome b (call_of n AskRoughness) ≡ record { answer = without_value (roughness_for (office_of n) b); held = b; bytes = [] }
  unfolding brings_tables roughness_for roughness_of points_unless without_value office_outcome lent_bytes
  roughness_told =
      told b n AskRoughness (λ d. refl) (λ o. without_value (roughness_for o b)) refl
      (λ w. ap (λ (a : Answer). record { answer = a; held = own w b; bytes = [] }) (alone _ _))

-- what is told says what is answered

module _ (s : Station) (n : ℕ) where
  pub show_answers : (a : Answered Programme) → a ≡ shown_for (office_of n) (units_in s) → Lends s n Show (without_value a) []
  show_answers a tells = rw tells (show_told (units_in s) n)

  pub why_answers : (i j : ℕ) (a : Why) → a ≡ why_for (office_of n) (units_in s) i j → Lends s n (AskWhy i j) (without_value a) []
  why_answers i j a tells = rw tells (why_told (units_in s) n i j)

  pub roughness_answers :
      (a : Answered Roughness) (b : Both Held) → KeepsBoth s b → a ≡ roughness_for (office_of n) b
      → ReportsBoth b (call_of n AskRoughness) (record { answer = without_value a; station = s })
  roughness_answers a b keeps tells =
      let out = roughness_told b n in record { answer = rw (tells, out); station = rw out keeps }

-- what is told to an office, by what its unit, or its window, says, and to none

module _ (n : ℕ) (b : Both Held) where
  module _ (none : office_of n ≡ None) where
    pub shown_nobody : Refused no_such_office ≡ shown_for (office_of n) b
    unfolding shown_for
    shown_nobody = rw none

    pub why_nobody : (i j : ℕ) → Refused no_such_office ≡ why_for (office_of n) b i j
    unfolding why_for
    why_nobody i j = rw none

    pub roughness_nobody : Refused no_such_office ≡ roughness_for (office_of n) b
    unfolding roughness_for
    roughness_nobody = rw none

  module _ (w : Which) (named : n ≡ office_number w) where
    shown_named : (p : Programme) → p ≡ show_of (own w b).unit → Accepted p ≡ shown_for (office_of n) b
    unfolding shown_for
    shown_named p e = rw (named_some n w named, e)

    why_named : (i j : ℕ) (a : Why) → a ≡ why_of (own w b).unit i j → a ≡ why_for (office_of n) b i j
    unfolding why_for
    why_named i j a e = rw (named_some n w named) e

    pub roughness_named : (a : Answered Roughness) → a ≡ roughness_of (own w b).heard → a ≡ roughness_for (office_of n) b
    unfolding roughness_for
    roughness_named a e = rw (named_some n w named) e

module _ (s : Station) (n : ℕ) (w : Which) (named : n ≡ office_number w) where
  pub shown_in : (p : Programme) → p ≡ show_of (office_in w s).unit → Accepted p ≡ shown_for (office_of n) (units_in s)
  shown_in p e = shown_named n (units_in s) w named p (rw unit_in at e)

  pub why_in : (i j : ℕ) (a : Why) → a ≡ why_of (office_in w s).unit i j → a ≡ why_for (office_of n) (units_in s) i j
  why_in i j a e = why_named n (units_in s) w named i j a (rw unit_in at e)

-- why, from what both hold
pub why_kept :
    (s : Station) (n i j : ℕ) (r : Why) → r ≡ why_for (office_of n) (units_in s) i j → (b : Both Held) → KeepsBoth s b → r ≡ why_for (office_of n) b i j
unfolding why_for
why_kept s n i j r tells b keeps = tells ∙ go (office_of n)
  where
    go : (o : Option Which) → why_for o (units_in s) i j ≡ why_for o b i j
    go None = refl
    go (Some First) = ap (λ (u : Unit). why_of u i j) (keeps First).unit
    go (Some Second) = ap (λ (u : Unit). why_of u i j) (keeps Second).unit
