-- Document 01, "The calls", on demand 3: lists of calls on a fresh unit.
use Rattle.std.specs.Prelude.{ℕ, List, [], ◌∷◌}
use Rattle.rules.specs.District.{District, fresh_district}
use Rattle.rules.specs.Answers.{accepting, answer_of, Answer, Accepted}
use Rattle.rules.specs.Blocks.{choice_of, no_blocks}
use Rattle.rules.specs.Calls.{load_refusal, export_refusal, page_refusal, bar_refusal, edit_refusal, edited, district_in, fresh_unit, load_of, alter_of, choose_of, Export, export_of, page_of, Reply}
use Rattle.rules.specs.declared.Choice.{Choice}
use Rattle.rules.specs.declared.Edit.{Edit}
use Rattle.rules.specs.declared.Unit.{Unit}

-- what a caller may ask, with all that is handed in
pub data Call : Type 0 where
  Load : List ℕ → Call
  Alter : Edit → Call
  ChooseBlocks : List ℕ → Call
  ExportTo : List ℕ → Call
  PageTo : List ℕ → Call
  Show : Call
  AskWhy : ℕ → ℕ → Call

-- the number of the first condition for a refusal that the call meets; 0 where it meets none
unfoldable pub refusal_of : District → Call → ℕ
refusal_of d (Load file) = load_refusal file
refusal_of d (Alter e) = edit_refusal d e
refusal_of d (ChooseBlocks row) = 0
refusal_of d (ExportTo buffer) = export_refusal d buffer
refusal_of d (PageTo buffer) = page_refusal d buffer
refusal_of d Show = 0
refusal_of d (AskWhy i j) = bar_refusal d i j

-- ---- what the calls make of the fresh district

-- how a call that is not refused alters it
unfoldable pub altered : District → Call → District
altered d (Load file) = district_in file
altered d (Alter e) = edited d e
altered d (ChooseBlocks row) = d
altered d (ExportTo buffer) = d
altered d (PageTo buffer) = d
altered d Show = d
altered d (AskWhy i j) = d

unfoldable pub district_from : District → List Call → District
district_from d [] = d
district_from d (c ∷ cs) = district_from (accepting (refusal_of d c) (altered d c) d) cs

unfoldable pub district_after : List Call → District
district_after cs = district_from fresh_district cs

-- ---- and which blocks they choose, until the next load that is not refused (document 02, request 13)

-- after a call that is not refused
unfoldable pub chosen : Choice → Call → Choice
chosen x (Load file) = no_blocks
chosen x (Alter e) = x
chosen x (ChooseBlocks row) = choice_of row
chosen x (ExportTo buffer) = x
chosen x (PageTo buffer) = x
chosen x Show = x
chosen x (AskWhy i j) = x

unfoldable pub choice_from : District → Choice → List Call → Choice
choice_from d x [] = x
choice_from d x (c ∷ cs) =
    choice_from (accepting (refusal_of d c) (altered d c) d) (accepting (refusal_of d c) (chosen x c) x) cs

unfoldable pub choice_after : List Call → Choice
choice_after cs = choice_from fresh_district no_blocks cs

-- ---- the unit after a list, from what each call does

-- all that a call does: its answer, and the unit and the lent bytes as it leaves them
pub record Outcome : Type 0 where
  pub answer : Answer
  pub unit : Unit
  pub bytes : List ℕ

-- the bytes that a call is lent: a load's file, the buffer of an export or a page
unfoldable pub lent_to : Call → List ℕ
lent_to (Load file) = file
lent_to (Alter e) = []
lent_to (ChooseBlocks row) = []
lent_to (ExportTo buffer) = buffer
lent_to (PageTo buffer) = buffer
lent_to Show = []
lent_to (AskWhy i j) = []

abbrev pub replied : Reply → List ℕ → Outcome
replied r bytes = record { answer = r.answer; unit = r.unit; bytes = bytes }

abbrev pub written : Export → Unit → Outcome
written e u = record { answer = e.answer; unit = u; bytes = e.buffer }

-- a show is always accepted; what it gives is show_of, and what an accepted why gives is in why_of
unfoldable pub outcome_of : Unit → Call → Outcome
outcome_of u (Load file) = replied (load_of u file) file
outcome_of u (Alter e) = replied (alter_of u e) []
outcome_of u (ChooseBlocks row) = replied (choose_of u row) []
outcome_of u (ExportTo buffer) = written (export_of u buffer) u
outcome_of u (PageTo buffer) = written (page_of u buffer) u
outcome_of u Show = record { answer = Accepted 0; unit = u; bytes = [] }
outcome_of u (AskWhy i j) = record { answer = answer_of (bar_refusal u.district i j) 0; unit = u; bytes = [] }

-- one call after another
unfoldable pub unit_from : Unit → List Call → Unit
unit_from u [] = u
unit_from u (c ∷ cs) = unit_from (outcome_of u c).unit cs

unfoldable pub unit_after : List Call → Unit
unit_after cs = unit_from fresh_unit cs
