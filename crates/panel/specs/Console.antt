-- What the console answers to a line, and what is held after it.
use Rattle.std.specs.Prelude.{ℕ, ◌+◌, List, [], ◌≡◌, length, Option, None, Some, Result, Ok, Err}
use denote.Ref.{Bor}
use Rattle.base.specs.Text.{text, Put}
use Rattle.rules.specs.Answers.{no_such_office, Answer, Accepted}
use Rattle.rules.specs.District.{resources_of}
use Rattle.rules.specs.File.{longest_file}
use Rattle.rules.specs.Lists as Lists
use Rattle.rules.specs.Lists.{ExportTo}
use Rattle.rules.specs.Offices as Offices
use Rattle.rules.specs.Offices.{Held, OfficeCall, Plan}
use Rattle.rules.specs.Stations.{Both, own, office_of, call_of}
use Rattle.rules.specs.Desks as Desks
use Rattle.rules.specs.Desks.{Desk, fresh_desk, step_of, Event, Arrive, Ask, desk_by, answer_to}
use Rattle.rules.specs.Survey.{survey_of}
use Rattle.rules.specs.declared.Edit.{Edit}
use Rattle.rules.specs.declared.Unit.{Unit}
use Rattle.rules.specs.declared.refusals.Refusal.{Refusal}
use Rattle.rules.specs.declared.refusals.Refusal.TheVariants.{NoSuchOffice}
use Rattle.station.specs.Kept.{office_in}
use Rattle.command.specs.Reading.{path_of, row_in, command_in}
use Rattle.command.specs.declared.Command.{Command}
use Rattle.command.specs.declared.Command.TheVariants.{Nothing, Unknown, Load, Export, Alter, Show, Points, Page, Why, Send, Roughness, Office, Queue, Step, Blocks}
use Rattle.listing.specs.Listing.{shown, refusal, done, valued, explained, told, stepped, failed}
use Rattle.pages.specs.Printed.{page_held}
use Rattle.desk.specs.Kept.{KeepsDesk}
use Rattle.station.specs.Questions.{why_for, roughness_for}
use Rattle.panel.specs.declared.Console.{Console}
use Rattle.rules.specs.declared.Which.{Which}

-- what the console goes by: a desk, and the number of the office that calls name
pub record State : Type 0 where
  pub desk : Desk
  pub office : ℕ

abbrev pub state_of : Desk → ℕ → State
state_of d n = record { desk = d; office = n }

-- before the first line
abbrev pub start : State
start = state_of fresh_desk 1

-- a call of the office that is named, and an edit of it that is to wait
abbrev pub asking : State → OfficeCall → Event
asking s c = Ask (call_of s.office c)

abbrev pub queueing : State → ℕ → Edit → Event
queueing s n e = Arrive n (record { office = s.office; edit = e })

-- what an event answers, and what the console goes by then
abbrev pub answered : State → Event → Answer
answered s e = answer_to s.desk e

abbrev pub happened : State → Event → State
happened s e = state_of (desk_by s.desk e) s.office

-- ---- commands without a file; a load, an export and blocks have theirs below

-- of an office what is printed of its unit
abbrev pub printed_for : Option Which → (Unit → List ℕ) → Both Held → List ℕ
printed_for None print b = refusal no_such_office
printed_for (Some w) print b = print (own w b).unit

abbrev pub printed : (Unit → List ℕ) → Both Held → ℕ → List ℕ
printed print b n = printed_for (office_of n) print b

-- the points of a survey are no office's
unfoldable pub said : State → Command → List ℕ
said s Nothing = []
said s Unknown = text "unknown command\n"
said s Load = []
said s Export = []
said s (Alter e) = done (answered s (asking s (Plan (Lists.Alter e))))
said s Show = printed shown s.desk.held s.office
said s (Points c d e x) = valued (text "points ") (survey_of c d e x)
said s Page = printed page_held s.desk.held s.office
said s (Why i j) = explained (why_for (office_of s.office) s.desk.held i j)
said s (Send x) = done (answered s (asking s (Offices.Send x)))
said s Roughness = told (roughness_for (office_of s.office) s.desk.held)
said s (Office n) = text "ok\n"
said s (Queue n e) = done (answered s (queueing s n e))
said s Step = stepped (step_of s.desk).console (answered s Desks.Step)
said s Blocks = []

-- any number can be named; a call then tells whether an office has it
unfoldable pub after : State → Command → State
after s Nothing = s
after s Unknown = s
after s Load = s
after s Export = s
after s (Alter e) = happened s (asking s (Plan (Lists.Alter e)))
after s Show = s
after s (Points c d e x) = s
after s Page = s
after s (Why i j) = s
after s (Send x) = happened s (asking s (Offices.Send x))
after s Roughness = s
after s (Office n) = state_of s.desk n
after s (Queue n e) = happened s (queueing s n e)
after s Step = happened s Desks.Step
after s Blocks = s

-- ---- blocks: the line says a row, with a part for each resource of the tables that both offices share, or it is no command

abbrev pub choosing : State → List ℕ → Event
choosing s row = asking s (Plan (Lists.ChooseBlocks row))

unfoldable pub said_row : State → Option (List ℕ) → List ℕ
said_row s None = text "unknown command\n"
said_row s (Some row) = done (answered s (choosing s row))

unfoldable pub after_row : State → Option (List ℕ) → State
after_row s None = s
after_row s (Some row) = happened s (choosing s row)

abbrev pub row_for : State → List ℕ → Option (List ℕ)
row_for s line = row_in (2 + resources_of s.desk.held.first.unit.district) line

abbrev pub said_blocks : State → List ℕ → List ℕ
said_blocks s line = said_row s (row_for s line)

abbrev pub after_blocks : State → List ℕ → State
after_blocks s line = after_row s (row_for s line)

-- ---- commands with a file: what the file held, and whether one could be written, no contract can tell

-- a load of a file's bytes, and an export into a buffer
abbrev pub loading : State → List ℕ → Event
loading s file = asking s (Plan (Lists.Load file))

abbrev pub exporting : State → List ℕ → Event
exporting s buffer = asking s (Plan (ExportTo buffer))

-- a load leads from s to another state and says some bytes: the answer to the bytes that were read, or that none were
pub data Loads (s : State) (path : List ℕ) : State → List ℕ → Type 0 where
  read : (file : List ℕ) → Loads s path (happened s (loading s file)) (done (answered s (loading s file)))
  unopened : Loads s path s (failed (text "cannot open ") path)
  unread : Loads s path s (failed (text "cannot read ") path)

-- an export leaves all as it is; every file of a district has room in the longest, and none is made where the call is refused
pub data Exports (s : State) (path : List ℕ) : State → List ℕ → Type 0 where
  written : (buffer : List ℕ) → length buffer ≡ longest_file → Exports s path s (valued (text "ok ") (answered s (exporting s buffer)))
  unwritten :
      (buffer : List ℕ) (n : ℕ) → length buffer ≡ longest_file → answered s (exporting s buffer) ≡ Accepted n
      → Exports s path s (failed (text "cannot write ") path)

-- ---- lines

-- a line leads from s to another state, and says some bytes
pub data LineLeads (s : State) (line : List ℕ) : State → List ℕ → Type 0 where
  load : {t : State} {bs : List ℕ} → command_in line ≡ Load → Loads s (path_of line) t bs → LineLeads s line t bs
  export : {t : State} {bs : List ℕ} → command_in line ≡ Export → Exports s (path_of line) t bs → LineLeads s line t bs
  blocks : command_in line ≡ Blocks → LineLeads s line (after_blocks s line) (said_blocks s line)
  other :
      ¬ (command_in line ≡ Load) → ¬ (command_in line ≡ Export) → ¬ (command_in line ≡ Blocks)
      → LineLeads s line (after s (command_in line)) (said s (command_in line))

-- ---- and in the console

pub record KeepsState (c : Console) (s : State) : Type 0 where
  pub desk : KeepsDesk c.desk s.desk
  pub office : c.office ≡ s.office

-- the console after some input, and how many bytes its answer has
pub record Turn : Type 0 where
  pub console : Console
  pub length : ℕ

abbrev pub turn : Console → ℕ → Turn
turn c n = record { console = c; length = n }

-- the unit of the office that calls name, or what refuses a number that no office has
unfoldable pub UnitNamed : Console → Result (Bor Unit) Refusal → Type 0
UnitNamed c (Ok unit) = (w : Which) × ((office_of c.office ≡ Some w) × (unit.now ≡ (office_in w c.desk.station).unit))
UnitNamed c (Err refusal) = (office_of c.office ≡ None) × (refusal ≡ NoSuchOffice)

-- a console that keeps s
pub record Tells (s : State) (bs old new : List ℕ) (r : Turn) : Type 0 where
  pub keeps : KeepsState r.console s
  pub put : Put bs old new r.length

-- one that R leads to, with the bytes that it says
pub record Turns (R : State → List ℕ → Type 0) (old new : List ℕ) (r : Turn) : Type 0 where
  pub state : State
  pub bytes : List ℕ
  pub leads : R state bytes
  pub tells : Tells state bytes old new r
