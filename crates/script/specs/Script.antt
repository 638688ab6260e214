-- The list of events that a row of bytes stands for, what the last of them answers, and which office it names. A call is 17 bytes: its kind, which is
-- a row of the console's table of words (command/specs/Reading), the number of its office, and three numbers. A number is four bytes, low byte first.
-- A load is followed by its file, whose length is its first number. The first number of an export and of a page is its room. An edit that is to wait is
-- followed by the 17 bytes of that edit, and its first number is its console. A choice of blocks is followed by the numbers of its row, and its first
-- number is their count.
use Rattle.std.specs.Prelude.{ℕ, zero, suc, ◌+◌, ◌*◌, ◌/◌, min, List, [], ◌∷◌, leb, eqb, length, get_or, take, drop, replicate}
use Rattle.std.specs.Prelude.{Option, None, Some}
use Rattle.base.specs.Bytes.{number_of}
use Rattle.base.specs.Choice.{pick}
use Rattle.base.specs.Over.{listed_from}
use Rattle.rules.specs.File.{longest_file}
use Rattle.rules.specs.Lists.{Load, Alter, ChooseBlocks, ExportTo, PageTo, Show, AskWhy}
use Rattle.rules.specs.Offices.{OfficeCall, Plan, Send, AskRoughness}
use Rattle.rules.specs.Stations.{call_of}
use Rattle.rules.specs.Desks.{Desk, fresh_desk, Event, Arrive, Step, Ask, desk_by, answer_to}
use Rattle.pages.specs.Printed.{longest_page}
use Rattle.rules.specs.declared.Edit.{Edit}
use Rattle.rules.specs.Answers.{Answer, Accepted}
use Rattle.command.specs.Reading.{at, numbered, edit_in}
use Rattle.command.specs.declared.Command.{Command}

-- what stands at the front of the bytes
abbrev pub kind_in : List ℕ → ℕ
kind_in bs = get_or bs 0 0

-- the number whose bytes begin at a place
abbrev pub number_at : ℕ → List ℕ → ℕ
number_at at bs = number_of (take 4 (drop at bs))

abbrev pub office_in : List ℕ → ℕ
office_in bs = number_at 1 bs

abbrev pub first_in : List ℕ → ℕ
first_in bs = number_at 5 bs

-- the command of the row, with the numbers
unfoldable pub command_in : List ℕ → Command
command_in bs = numbered (kind_in bs) (at (first_in bs ∷ number_at 9 bs ∷ number_at 13 bs ∷ 0 ∷ []))

-- kinds whose rows do not say all; they stand so in the table of words (proofs/KindRows)
abbrev pub load_kind : ℕ
load_kind = 0

abbrev pub queue_kind : ℕ
queue_kind = 16

abbrev pub step_kind : ℕ
step_kind = 17

abbrev pub blocks_kind : ℕ
blocks_kind = 18

-- how many bytes follow the 17
unfoldable pub body_in : List ℕ → ℕ
body_in bs =
    pick (eqb (kind_in bs) load_kind) (first_in bs)
    (pick (eqb (kind_in bs) queue_kind) 17
    (pick (eqb (kind_in bs) blocks_kind) (4 * first_in bs) 0))

-- number n of a row, from 0
abbrev pub row_number : List ℕ → ℕ → ℕ
row_number body n = number_at (4 * n) body

-- a longer row is cut
abbrev pub longest_row : ℕ
longest_row = 16379

-- the row that bytes stand for
unfoldable pub row_in : List ℕ → List ℕ
row_in body = listed_from (min (length body / 4) longest_row) 0 (row_number body)

-- the call of a command, with its first number and what follows it; an export and a page go into so many zeros, at most as many as the
-- longest file and the longest page have; what is no call of an office is a show
unfoldable pub commanded : Command → ℕ → List ℕ → OfficeCall
commanded Command.Load n body = Plan (Load body)
commanded Command.Export n body = Plan (ExportTo (replicate (min n longest_file) 0))
commanded (Command.Alter e) n body = Plan (Alter e)
commanded Command.Show n body = Plan Show
commanded (Command.Points code degree extent seal) n body = Plan Show
commanded Command.Page n body = Plan (PageTo (replicate (min n longest_page) 0))
commanded (Command.Why i j) n body = Plan (AskWhy i j)
commanded (Command.Send s) n body = Send s
commanded Command.Roughness n body = AskRoughness
commanded Command.Nothing n body = Plan Show
commanded Command.Unknown n body = Plan Show
commanded (Command.Office office) n body = Plan Show
commanded (Command.Queue console e) n body = Plan Show
commanded Command.Step n body = Plan Show
commanded Command.Blocks n body = Plan (ChooseBlocks (row_in body))

-- an edit that is to wait, at a console; where there is none, a show
unfoldable pub queued_for : ℕ → ℕ → Option Edit → Event
queued_for office console None = Ask (call_of office (Plan Show))
queued_for office console (Some e) = Arrive console (record { office = office; edit = e })

-- by its kind, with office, command, first number and what follows
unfoldable pub event_of : ℕ → ℕ → Command → ℕ → List ℕ → Event
event_of kind office command n body =
    pick (eqb kind queue_kind) (queued_for office n (edit_in (command_in body)))
    (pick (eqb kind step_kind) Step (Ask (call_of office (commanded command n body))))

abbrev pub event_in : List ℕ → Event
event_in bs = event_of (kind_in bs) (office_in bs) (command_in bs) (first_in bs) (take (body_in bs) (drop 17 bs))

-- the office that it names; a step names none, and of it office 2 is shown where the number is not 1
unfoldable pub named_by : ℕ → ℕ → ℕ
named_by kind office = pick (eqb kind step_kind) (pick (eqb office 1) 1 2) office

-- an event, and the office that it names
pub record Entry : Type 0 where
  pub office : ℕ
  pub event : Event

abbrev pub entry_in : List ℕ → Entry
entry_in bs = record { office = named_by (kind_in bs) (office_in bs); event = event_in bs }

-- those that stand whole at the front of the bytes, at most n
unfoldable pub entries_in : ℕ → List ℕ → List Entry
entries_in zero bs = []
entries_in (suc n) bs = pick (leb (17 + body_in bs) (length bs)) (entry_in bs ∷ entries_in n (drop (17 + body_in bs) bs)) []

unfoldable pub entries_of : List ℕ → List Entry
entries_of bs = entries_in (length bs) bs

unfoldable pub events_of : List Entry → List Event
events_of [] = []
events_of (e ∷ es) = e.event ∷ events_of es

-- ---- what the events answer

-- the last answer, and the desk then
pub record Answered : Type 0 where
  pub answer : Answer
  pub desk : Desk

-- one event after another
unfoldable pub answered_from : Answered → List Entry → Answered
answered_from a [] = a
answered_from a (e ∷ es) = answered_from (record { answer = answer_to a.desk e.event; desk = desk_by a.desk e.event }) es

-- from the fresh desk; accepted where there is no event
unfoldable pub answered_after : List Entry → Answered
answered_after es = answered_from (record { answer = Accepted 0; desk = fresh_desk }) es

unfoldable pub last_answer : List Entry → Answer
last_answer es = (answered_after es).answer

-- the office that the last one names; office 1 where there is none
unfoldable pub office_from : ℕ → List Entry → ℕ
office_from n [] = n
office_from n (e ∷ es) = office_from e.office es

unfoldable pub last_office : List Entry → ℕ
last_office es = office_from 1 es
