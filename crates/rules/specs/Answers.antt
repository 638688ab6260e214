-- Document 01, "Where a call is refused": the refusals by name, those of document 02's requests behind them, and how a refusal and a result
-- become an answer, for every call alike. A refusal is its number, and 0 where there is none.
use Rattle.std.specs.Prelude.{ℕ, zero, suc, Bool, true, false, Result, Ok, Err}
use Rattle.base.specs.Over.{between}
use Rattle.rules.specs.declared.refusals.Refusal.{Refusal}
use Rattle.rules.specs.declared.refusals.Refusal.TheVariants.{CutShort, OtherKind, OtherLength, OutOfRange, BytesFollow, NoSuchSegment, NoSuchNumber, NewOutOfRange, BufferTooShort, NoSuchPoints, NoRoomForPage, NoReading, WindowEmpty, LeaderNotBelow, LeaderSet, NoSuchOffice, TablesInUse, WrongField, WrongLine, NoSuchConsole, QueueFull}

-- ---- the refusals, in the table's order

-- a file ends within a record
abbrev pub cut_short : ℕ
cut_short = 1

abbrev pub other_kind : ℕ
other_kind = 2

abbrev pub other_length : ℕ
other_length = 3

abbrev pub out_of_range : ℕ
out_of_range = 4

abbrev pub bytes_follow : ℕ
bytes_follow = 5

abbrev pub no_such_segment : ℕ
no_such_segment = 6

-- no such strategy, resource or distress
abbrev pub no_such_number : ℕ
no_such_number = 7

-- a new limit or rating
abbrev pub new_out_of_range : ℕ
new_out_of_range = 8

abbrev pub buffer_too_short : ℕ
buffer_too_short = 9

abbrev pub no_such_points : ℕ
no_such_points = 10

-- of document 02's request 2
abbrev pub no_room_for_page : ℕ
no_room_for_page = 11

-- of request 6: a value that is no reading, and points where there is no reading
abbrev pub no_reading : ℕ
no_reading = 12

abbrev pub window_empty : ℕ
window_empty = 13

-- of request 8
abbrev pub leader_not_below : ℕ
leader_not_below = 14

-- of request 9: a leader is set in a file that is to have none
abbrev pub leader_set : ℕ
leader_set = 15

-- of request 10: a number that is no office's; a load that would bring other tables to an office with segments
abbrev pub no_such_office : ℕ
no_such_office = 16

abbrev pub tables_in_use : ℕ
tables_in_use = 17

-- of request 11: a field that breaks its rule or its range, and a line of another length or a deck that ends before it
abbrev pub wrong_field : ℕ
wrong_field = 18

abbrev pub wrong_line : ℕ
wrong_line = 19

-- of request 12: a number that is no console's, and a queue without a free place
abbrev pub no_such_console : ℕ
no_such_console = 20

abbrev pub queue_full : ℕ
queue_full = 21

-- each by its name in the code
abbrev pub refusal_number : Refusal → ℕ
refusal_number CutShort = cut_short
refusal_number OtherKind = other_kind
refusal_number OtherLength = other_length
refusal_number OutOfRange = out_of_range
refusal_number BytesFollow = bytes_follow
refusal_number NoSuchSegment = no_such_segment
refusal_number NoSuchNumber = no_such_number
refusal_number NewOutOfRange = new_out_of_range
refusal_number BufferTooShort = buffer_too_short
refusal_number NoSuchPoints = no_such_points
refusal_number NoRoomForPage = no_room_for_page
refusal_number NoReading = no_reading
refusal_number WindowEmpty = window_empty
refusal_number LeaderNotBelow = leader_not_below
refusal_number LeaderSet = leader_set
refusal_number NoSuchOffice = no_such_office
refusal_number TablesInUse = tables_in_use
refusal_number WrongField = wrong_field
refusal_number WrongLine = wrong_line
refusal_number NoSuchConsole = no_such_console
refusal_number QueueFull = queue_full

-- ---- how one comes about

-- refusal n where the test fails, else what the later tests say
abbrev pub unless : Bool → ℕ → ℕ → ℕ
unless true n rest = rest
unless false n rest = n

-- refusal n where x is not 1 to count, else what the later tests say
abbrev pub one_to : ℕ → ℕ → ℕ → ℕ → ℕ
one_to x count n rest = unless (between 1 count x) n rest

-- refusal n, and where there is none what the later tests say
abbrev pub or_later : ℕ → ℕ → ℕ
or_later zero rest = rest
or_later (suc n) rest = suc n

-- the first refusal of f 1, .. f n, or 0
unfoldable pub first_refusal : ℕ → (ℕ → ℕ) → ℕ
first_refusal zero f = 0
first_refusal (suc n) f = or_later (first_refusal n f) (f (suc n))

-- ---- what is answered and what is held

-- what a call answers: a value, or the number of a refusal, marked so that it cannot be read as a value
pub data Answered (A : Type 0) : Type 0 where
  Accepted : A → Answered A
  Refused : ℕ → Answered A

-- the value of most calls is a number: 0, a length, points
abbrev pub Answer : Type 0
Answer = Answered ℕ

-- the value where nothing refuses it, else the number
unfoldable pub answer_of : {A : Type 0} → ℕ → A → Answered A
answer_of zero value = Accepted value
answer_of (suc n) value = Refused (suc n)

-- what the code's results say: the value, or the refusal's number
abbrev pub answer_in : {A : Type 0} → Result A Refusal → Answered A
answer_in (Ok value) = Accepted value
answer_in (Err refusal) = Refused (refusal_number refusal)

-- what refuses it, 0 where nothing does
abbrev pub refusal_in : {A : Type 0} → Result A Refusal → ℕ
refusal_in (Ok value) = 0
refusal_in (Err refusal) = refusal_number refusal

-- what is held after it: the new where nothing refuses it, else what stood there
unfoldable pub accepting : {A : Type 0} → ℕ → A → A → A
accepting zero new old = new
accepting (suc n) new old = old
