-- A line of the panel as a command, for any bytes at all.
use Rattle.std.specs.Prelude.{ℕ, zero, suc, ◌+◌, ◌^◌, Bool, not, ◌&&◌, ◌||◌, List, [], ◌∷◌, ltb, eqb, length, get_or, drop, map}
use Rattle.std.specs.List.{list_all}
use Prim.Native.String.{String}
use Rattle.std.specs.Prelude.{Option, None, Some}
use Rattle.base.specs.Choice.{pick, only}
use Rattle.base.specs.Over.{between}
use Rattle.base.specs.Same.{same}
use Rattle.base.specs.Text.{text, up_to, on_from, value_from, held}
use Rattle.rules.specs.declared.Edit.{Edit}
use Rattle.rules.specs.declared.Edit.TheVariants.{Bar, Unbar, SetLimit, SetRating, SetLeader}
use Rattle.rules.specs.declared.Sent.{Sent}
use Rattle.rules.specs.declared.Sent.TheVariants.{Index, Marker, Lost}
use Rattle.command.specs.declared.Command.{Command}
use Rattle.command.specs.declared.Name.{Name}
use Rattle.command.specs.declared.Takes.{Takes}
use Rattle.command.specs.declared.Takes.TheVariants.{Numbers, Path, Queued, Blocks}

-- a longer line is no command
abbrev pub longest_line : ℕ
longest_line = 4096

-- ---- bytes

-- a blank, a tab or a carriage return
unfoldable pub is_space : ℕ → Bool
is_space b = eqb b 32 || (eqb b 9 || eqb b 13)

-- the bytes before the next blank, and those from it on
abbrev pub word_of : List ℕ → List ℕ
word_of bs = up_to 32 bs

abbrev pub rest_of : List ℕ → List ℕ
rest_of bs = on_from 32 bs

-- ---- numbers

-- a word of one to 20 digits, for a number of 64 bits
unfoldable pub number_in : List ℕ → Option ℕ
number_in word = pick (between 1 20 (length word)) (held (value_from 0 word)) None

-- the number after one blank, and what follows it
unfoldable pub first_number : List ℕ → Option ℕ
first_number [] = None
first_number (b ∷ bs) = pick (eqb b 32) (number_in (word_of bs)) None

unfoldable pub after_number : List ℕ → List ℕ
after_number [] = []
after_number (b ∷ bs) = rest_of bs

unfoldable pub with_number : Option ℕ → Option (List ℕ) → Option (List ℕ)
with_number None vs = None
with_number (Some v) None = None
with_number (Some v) (Some vs) = Some (v ∷ vs)

-- n numbers, each after one blank, and then the end
unfoldable pub arguments : ℕ → List ℕ → Option (List ℕ)
arguments zero bs = pick (eqb (length bs) 0) (Some []) None
arguments (suc n) bs = with_number (first_number bs) (arguments n (after_number bs))

-- numbers by their places, from 0; 0 behind the last
abbrev pub at : List ℕ → ℕ → ℕ
at vs i = get_or vs i 0

unfoldable pub placed : Option (List ℕ) → Option (ℕ → ℕ)
placed None = None
placed (Some vs) = Some (at vs)

-- ---- paths

-- what follows the first word and its blank
unfoldable pub path_of : List ℕ → List ℕ
path_of line = drop 1 (rest_of line)

-- a path is 1 to 255 bytes without a 0
unfoldable pub is_path : List ℕ → Bool
is_path path = between 1 255 (length path) && list_all (λ b. not (eqb b 0)) path

-- ---- blocks

-- a stroke after one blank, as stands between two blocks
unfoldable pub has_stroke : List ℕ → Bool
has_stroke bs = eqb (at bs 0) 32 && eqb (at bs 1) 47

-- the numbers of blocks, so many in each, of which n are still due in the block that has begun: each stands after one blank. Read in at most so many
-- turns, each of a number, a stroke or the end; no number and no stroke is without a byte.
unfoldable pub blocks_from : ℕ → ℕ → ℕ → List ℕ → Option (List ℕ)
blocks_from zero each n bs = None
blocks_from (suc turns) each zero bs =
    pick (eqb (length bs) 0) (Some []) (pick (has_stroke bs) (blocks_from turns each each (drop 2 bs)) None)
blocks_from (suc turns) each (suc n) bs = with_number (first_number bs) (blocks_from turns each n (after_number bs))

unfoldable pub blocks_in : ℕ → List ℕ → Option (List ℕ)
blocks_in each bs = blocks_from (length bs + 1) each each bs

-- the row by which a line chooses blocks, with so many numbers for each of them: behind the word alone none, else one block or more; nothing for any
-- other writing
unfoldable pub row_in : ℕ → List ℕ → Option (List ℕ)
row_in each line =
    let bs = rest_of line in
    pick (ltb longest_line (length line)) None (pick (eqb (length bs) 0) (Some []) (blocks_in each bs))

-- ---- commands

-- a row of the table: a word, what it names, and what it takes, which stands behind it
pub record Row : Type 0 where
  pub word : List ℕ
  pub name : Name
  pub takes : Takes

unfoldable pub row : String → Name → Takes → Row
row word name takes = record { word = text word; name = name; takes = takes }

-- of each name
abbrev pub row_of : Name → Row
row_of Name.Load = row "load" Name.Load Path
row_of Name.Export = row "export" Name.Export Path
row_of Name.Bar = row "bar" Name.Bar (Numbers 2)
row_of Name.Unbar = row "unbar" Name.Unbar (Numbers 2)
row_of Name.Limit = row "limit" Name.Limit (Numbers 2)
row_of Name.Rating = row "rating" Name.Rating (Numbers 3)
row_of Name.Show = row "show" Name.Show (Numbers 0)
row_of Name.Points = row "points" Name.Points (Numbers 4)
row_of Name.Page = row "page" Name.Page (Numbers 0)
row_of Name.Why = row "why" Name.Why (Numbers 2)
row_of Name.Index = row "index" Name.Index (Numbers 1)
row_of Name.Marker = row "marker" Name.Marker (Numbers 1)
row_of Name.Lost = row "lost" Name.Lost (Numbers 0)
row_of Name.Roughness = row "roughness" Name.Roughness (Numbers 0)
row_of Name.Leader = row "leader" Name.Leader (Numbers 2)
row_of Name.Office = row "office" Name.Office (Numbers 1)
row_of Name.Queue = row "queue" Name.Queue Queued
row_of Name.Step = row "step" Name.Step (Numbers 0)
row_of Name.Blocks = row "blocks" Name.Blocks Blocks

abbrev pub names : List Name
names =
    Name.Load
    ∷ Name.Export
    ∷ Name.Bar
    ∷ Name.Unbar
    ∷ Name.Limit
    ∷ Name.Rating
    ∷ Name.Show
    ∷ Name.Points
    ∷ Name.Page
    ∷ Name.Why
    ∷ Name.Index
    ∷ Name.Marker
    ∷ Name.Lost
    ∷ Name.Roughness
    ∷ Name.Leader
    ∷ Name.Office
    ∷ Name.Queue
    ∷ Name.Step
    ∷ Name.Blocks
    ∷ []

-- every word that there is
unfoldable pub rows : List Row
rows = map row_of names

-- a record of the meter with these bits; a float has 32, and a number that has more is no command
abbrev pub send_of : ℕ → Sent → Command
send_of bits sent = pick (ltb bits (2 ^ 32)) (Command.Send sent) Command.Unknown

-- the command of a name, with its numbers; they say no edit that is to wait
abbrev pub made : Name → (ℕ → ℕ) → Command
made Name.Load v = Command.Load
made Name.Export v = Command.Export
made Name.Bar v = Command.Alter (Bar (v 0) (v 1))
made Name.Unbar v = Command.Alter (Unbar (v 0) (v 1))
made Name.Limit v = Command.Alter (SetLimit (v 0) (v 1))
made Name.Rating v = Command.Alter (SetRating (v 0) (v 1) (v 2))
made Name.Show v = Command.Show
made Name.Points v = Command.Points (v 0) (v 1) (v 2) (v 3)
made Name.Page v = Command.Page
made Name.Why v = Command.Why (v 0) (v 1)
made Name.Index v = send_of (v 0) (Index (v 0))
made Name.Marker v = send_of (v 0) (Marker (v 0))
made Name.Lost v = Command.Send Lost
made Name.Roughness v = Command.Roughness
made Name.Leader v = Command.Alter (SetLeader (v 0) (v 1))
made Name.Office v = Command.Office (v 0)
made Name.Queue v = Command.Unknown
made Name.Step v = Command.Step
made Name.Blocks v = Command.Blocks

-- the command of the first of some rows, where there is one
unfoldable pub first_made : List Row → (ℕ → ℕ) → Command
first_made [] v = Command.Unknown
first_made (r ∷ rs) v = made r.name v

-- the command of a row, counted from 0; past the last there is none
unfoldable pub numbered : ℕ → (ℕ → ℕ) → Command
numbered n v = first_made (drop n rows) v

-- the numbers that stand behind the first word, where what stands there is what the word takes; a path has none, an edit that is to wait has
-- them behind a word of its own (queued_in), and those of blocks are found apart (row_in)
unfoldable pub taken : Takes → List ℕ → Option (ℕ → ℕ)
taken (Numbers n) line = placed (arguments n (rest_of line))
taken Path line = only (is_path (path_of line)) (at [])
taken Queued line = None
taken Blocks line = Some (at [])

-- a word without what it takes is no command
unfoldable pub meant : Name → Option (ℕ → ℕ) → Command
meant name None = Command.Unknown
meant name (Some v) = made name v

-- by the row whose word is the line's first
unfoldable pub called : List Row → List ℕ → Command
called [] line = Command.Unknown
called (r ∷ rs) line =
    pick (same (word_of line) r.word) (meant r.name (taken r.takes line)) (called rs line)

-- the edit that a command is, where it is one
unfoldable pub edit_in : Command → Option Edit
edit_in Command.Nothing = None
edit_in Command.Unknown = None
edit_in Command.Load = None
edit_in Command.Export = None
edit_in (Command.Alter e) = Some e
edit_in Command.Show = None
edit_in (Command.Points code degree extent seal) = None
edit_in Command.Page = None
edit_in (Command.Why i j) = None
edit_in (Command.Send s) = None
edit_in Command.Roughness = None
edit_in (Command.Office n) = None
edit_in (Command.Queue n e) = None
edit_in Command.Step = None
edit_in Command.Blocks = None

-- an edit that is to wait: behind the word stands a console's number, and behind that a command that is an edit
unfoldable pub queued_as : Option ℕ → Option Edit → Command
queued_as None e = Command.Unknown
queued_as (Some n) None = Command.Unknown
queued_as (Some n) (Some e) = Command.Queue n e

unfoldable pub queued_in : List ℕ → Command
queued_in line = let rest = path_of line in queued_as (number_in (word_of rest)) (edit_in (called rows (path_of rest)))

-- it begins with "#"
unfoldable pub is_comment : List ℕ → Bool
is_comment line = eqb (at line 0) 35

unfoldable pub command_in : List ℕ → Command
command_in line =
    pick (is_comment line) Command.Nothing
    (pick (ltb longest_line (length line)) Command.Unknown
    (pick (list_all is_space line) Command.Nothing
    (pick (same (word_of line) (text "queue")) (queued_in line)
    (called rows line))))

-- how many numbers a word takes
abbrev pub count_of : Takes → ℕ
count_of (Numbers n) = n
count_of Path = 0
count_of Queued = 0
count_of Blocks = 0
