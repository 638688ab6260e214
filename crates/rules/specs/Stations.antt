-- Document 02, request 10: two offices on one unit, together a station. They share tables (District.shared_tables); segments, limits, bars, leaders,
-- blocks, programme and window each has for itself. Every call names its office by number; survey points, which is of no office,
-- names none.
use Rattle.std.specs.Prelude.{ℕ, zero, suc, Bool, false, not, ◌&&◌, List, [], ◌∷◌, leb, eqb}
use Rattle.std.specs.Prelude.{Option, None, Some}
use Rattle.base.specs.Choice.{pick}
use Rattle.rules.specs.District.{District, segments_of, fresh_district, shared_tables, same_tables}
use Rattle.rules.specs.Answers.{no_such_office, tables_in_use, unless, or_later, accepting, Answer, Refused}
use Rattle.rules.specs.declared.Choice.{Choice}
use Rattle.rules.specs.declared.Which.{Which}
use Rattle.rules.specs.declared.Which.TheVariants.{First, Second}
use Rattle.rules.specs.Blocks.{no_blocks}
use Rattle.rules.specs.Calls.{district_in, unit_with}
use Rattle.rules.specs.Lists.{Call, Load, Alter, ChooseBlocks, ExportTo, PageTo, Show, AskWhy, refusal_of, altered, chosen}
use Rattle.rules.specs.Offices.{Held, fresh_held, OfficeCall, Plan, Send, AskRoughness, office_refusal, lent_bytes, OfficeOutcome, office_outcome}

-- ---- the two offices

abbrev pub other : Which → Which
other First = Second
other Second = First

-- something of each
pub record Both (A : Type 0) : Type 0 where
  pub first : A
  pub second : A

-- what office w has of it
abbrev pub own : {A : Type 0} → Which → Both A → A
own First b = b.first
own Second b = b.second

-- x is office w's, y the other's
abbrev pub together : {A : Type 0} → Which → A → A → Both A
together First x y = record { first = x; second = y }
together Second x y = record { first = y; second = x }

-- their numbers; any other names none
abbrev pub office_number : Which → ℕ
office_number First = 1
office_number Second = 2

abbrev pub office_of : ℕ → Option Which
office_of n = pick (eqb n 1) (Some First) (pick (eqb n 2) (Some Second) None)

unfoldable pub fresh_both : Both Held
fresh_both = record { first = fresh_held; second = fresh_held }

-- what a caller may ask: a call of an office, with the number that is handed in
pub record StationCall : Type 0 where
  pub office : ℕ
  pub call : OfficeCall

abbrev pub call_of : ℕ → OfficeCall → StationCall
call_of n c = record { office = n; call = c }

-- a call of office w
abbrev pub call_by : Which → OfficeCall → StationCall
call_by w c = call_of (office_number w) c

-- ---- a call of an office beside the other: d and e are their districts, o and p all that they hold

-- it brings other shared tables than those held, which a load alone can do (of a file that is refused this says nothing)
unfoldable pub brings_tables : District → OfficeCall → Bool
brings_tables d (Plan (Load file)) = not (same_tables d (district_in file))
brings_tables d (Plan (Alter e)) = false
brings_tables d (Plan (ChooseBlocks row)) = false
brings_tables d (Plan (ExportTo buffer)) = false
brings_tables d (Plan (PageTo buffer)) = false
brings_tables d (Plan Show) = false
brings_tables d (Plan (AskWhy i j)) = false
brings_tables d (Send s) = false
brings_tables d AskRoughness = false

-- other shared tables must wait while the other office has segments; one's own segments do not matter
unfoldable pub tables_refusal : District → District → OfficeCall → ℕ
tables_refusal d e c = unless (not (brings_tables d c && leb 1 (segments_of e))) tables_in_use 0

-- after all tests of the office's own
unfoldable pub refusal_beside : Held → Held → OfficeCall → ℕ
refusal_beside o p c = or_later (office_refusal o c) (tables_refusal o.unit.district p.unit.district c)

-- with the shared tables of d, and nothing else to plan; the choice of blocks and the window stay
abbrev pub with_tables : District → Held → Held
with_tables d p = record { unit = unit_with p.unit.choice (shared_tables d); heard = p.heard }

-- what the other office holds after a call that is not refused: new tables come to it too
unfoldable pub held_beside : Held → Held → OfficeCall → Held
held_beside o p c = pick (brings_tables o.unit.district c) (with_tables (office_outcome o c).held.unit.district p) p

-- ---- one call

-- the office's number comes first
abbrev pub refusal_for : Option Which → Both Held → OfficeCall → ℕ
refusal_for None b c = no_such_office
refusal_for (Some w) b c = refusal_beside (own w b) (own (other w) b) c

unfoldable pub station_refusal : Both Held → StationCall → ℕ
station_refusal b c = refusal_for (office_of c.office) b c.call

-- all that a call does: its answer, and what both hold and the lent bytes as it leaves them
pub record StationOutcome : Type 0 where
  pub answer : Answer
  pub held : Both Held
  pub bytes : List ℕ

-- office w's own outcome, beside what the other then holds
abbrev pub beside : Which → Held → OfficeOutcome → StationOutcome
beside w p o = record { answer = o.answer; held = together w o.held p; bytes = o.bytes }

-- a refusal leaves all as it was
abbrev pub refused_all : ℕ → Both Held → OfficeCall → StationOutcome
refused_all n b c = record { answer = Refused n; held = b; bytes = lent_bytes c }

unfoldable pub concluded : ℕ → Which → Both Held → OfficeCall → StationOutcome
concluded zero w b c = beside w (held_beside (own w b) (own (other w) b) c) (office_outcome (own w b) c)
concluded (suc n) w b c = refused_all (suc n) b c

abbrev pub outcome_for : Option Which → Both Held → OfficeCall → StationOutcome
outcome_for None b c = refused_all no_such_office b c
outcome_for (Some w) b c = concluded (refusal_beside (own w b) (own (other w) b) c) w b c

unfoldable pub station_outcome : Both Held → StationCall → StationOutcome
station_outcome b c = outcome_for (office_of c.office) b c.call

-- ---- one call after another

unfoldable pub station_from : Both Held → List StationCall → Both Held
station_from b [] = b
station_from b (c ∷ cs) = station_from (station_outcome b c).held cs

unfoldable pub station_after : List StationCall → Both Held
station_after cs = station_from fresh_both cs

-- ---- what the calls of both make of their districts, and which blocks they choose

-- what refuses a call of office w on its unit
abbrev pub plan_refusal : Which → Both District → Call → ℕ
plan_refusal w b c = or_later (refusal_of (own w b) c) (tables_refusal (own w b) (own (other w) b) (Plan c))

-- how a call of office w on its unit that is not refused alters them
abbrev pub altered_both : Which → Both District → Call → Both District
altered_both w b c =
    together w (altered (own w b) c) (pick (brings_tables (own w b) (Plan c)) (shared_tables (altered (own w b) c)) (own (other w) b))

unfoldable pub districts_by : Option Which → Both District → OfficeCall → Both District
districts_by None b c = b
districts_by (Some w) b (Plan c) = accepting (plan_refusal w b c) (altered_both w b c) b
districts_by (Some w) b (Send s) = b
districts_by (Some w) b AskRoughness = b

unfoldable pub districts_from : Both District → List StationCall → Both District
districts_from b [] = b
districts_from b (c ∷ cs) = districts_from (districts_by (office_of c.office) b c.call) cs

unfoldable pub districts_after : List StationCall → Both District
districts_after cs = districts_from (record { first = fresh_district; second = fresh_district }) cs

-- one office's load leaves the other's choice
unfoldable pub choices_by : Option Which → Both District → Both Choice → OfficeCall → Both Choice
choices_by None b x c = x
choices_by (Some w) b x (Plan c) = accepting (plan_refusal w b c) (together w (chosen (own w x) c) (own (other w) x)) x
choices_by (Some w) b x (Send s) = x
choices_by (Some w) b x AskRoughness = x

unfoldable pub choices_from : Both District → Both Choice → List StationCall → Both Choice
choices_from b x [] = x
choices_from b x (c ∷ cs) =
    choices_from (districts_by (office_of c.office) b c.call) (choices_by (office_of c.office) b x c.call) cs

unfoldable pub choices_after : List StationCall → Both Choice
choices_after cs =
    choices_from (record { first = fresh_district; second = fresh_district }) (record { first = no_blocks; second = no_blocks }) cs

-- ---- the calls of one office

abbrev pub made_by : Which → StationCall → Bool
made_by w c = eqb c.office (office_number w)

unfoldable pub calls_by : Which → List StationCall → List OfficeCall
calls_by w [] = []
calls_by w (c ∷ cs) = pick (made_by w c) (c.call ∷ calls_by w cs) (calls_by w cs)

-- the others, those that name no office among them
unfoldable pub without : Which → List StationCall → List StationCall
without w [] = []
without w (c ∷ cs) = pick (made_by w c) (without w cs) (c ∷ without w cs)
