-- Document 02, request 6: beside the planning unit stands the window of a roughness meter. Both together are an office, as request 10 calls it.
-- The list of all its calls.
use Rattle.std.specs.Prelude.{ℕ, List, [], ◌∷◌}
use Rattle.rules.specs.Answers.{answer_of, Answer}
use Rattle.rules.specs.Meter.{Heard, nothing_heard, sent_refusal, hearing, roughness_refusal}
use Rattle.rules.specs.Calls.{fresh_unit}
use Rattle.rules.specs.Lists.{Call, refusal_of, lent_to, Outcome, outcome_of}
use Rattle.rules.specs.declared.Unit.{Unit}
use Rattle.rules.specs.declared.Sent.{Sent}

-- what an office holds: its unit, and what was heard from the van
pub record Held : Type 0 where
  pub unit : Unit
  pub heard : Heard

unfoldable pub fresh_held : Held
fresh_held = record { unit = fresh_unit; heard = nothing_heard }

-- what a caller may ask: a call of the unit, a record of the meter handed on, the points for its window
pub data OfficeCall : Type 0 where
  Plan : Call → OfficeCall
  Send : Sent → OfficeCall
  AskRoughness : OfficeCall

-- ---- one call: neither the unit nor the meter sees what is asked of the other

unfoldable pub office_refusal : Held → OfficeCall → ℕ
office_refusal o (Plan c) = refusal_of o.unit.district c
office_refusal o (Send s) = sent_refusal s
office_refusal o AskRoughness = roughness_refusal o.heard

unfoldable pub lent_bytes : OfficeCall → List ℕ
lent_bytes (Plan c) = lent_to c
lent_bytes (Send s) = []
lent_bytes AskRoughness = []

-- all that a call does: its answer, and what is held and the lent bytes as it leaves them
pub record OfficeOutcome : Type 0 where
  pub answer : Answer
  pub held : Held
  pub bytes : List ℕ

abbrev pub planned : Heard → Outcome → OfficeOutcome
planned h o = record { answer = o.answer; held = record { unit = o.unit; heard = h }; bytes = o.bytes }

-- what an accepted question for roughness gives is in roughness_of
unfoldable pub office_outcome : Held → OfficeCall → OfficeOutcome
office_outcome o (Plan c) = planned o.heard (outcome_of o.unit c)
office_outcome o (Send s) =
    record { answer = answer_of (sent_refusal s) 0; held = record { unit = o.unit; heard = hearing o.heard s }; bytes = [] }
office_outcome o AskRoughness = record { answer = answer_of (roughness_refusal o.heard) 0; held = o; bytes = [] }

-- ---- one call after another

unfoldable pub held_from : Held → List OfficeCall → Held
held_from o [] = o
held_from o (c ∷ cs) = held_from (office_outcome o c).held cs

unfoldable pub held_after : List OfficeCall → Held
held_after cs = held_from fresh_held cs

-- the calls of the unit among them, and the records of the meter
unfoldable pub unit_calls : List OfficeCall → List Call
unit_calls [] = []
unit_calls (Plan c ∷ cs) = c ∷ unit_calls cs
unit_calls (Send s ∷ cs) = unit_calls cs
unit_calls (AskRoughness ∷ cs) = unit_calls cs

unfoldable pub sent_in : List OfficeCall → List Sent
sent_in [] = []
sent_in (Plan c ∷ cs) = sent_in cs
sent_in (Send s ∷ cs) = s ∷ sent_in cs
sent_in (AskRoughness ∷ cs) = sent_in cs
