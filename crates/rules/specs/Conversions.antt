-- Document 02, request 9: a file turned from one form into the other. It is read in the form that is to be turned, whatever its first kind
-- names: so one that has the wanted form already is refused there.
use Rattle.std.specs.Prelude.{ℕ, List, leb, length}
use Rattle.rules.specs.Answers.{buffer_too_short, leader_set, unless, or_later}
use Rattle.rules.specs.Calls.{load_refusal_of, loaded_of, Export, exported}
use Rattle.rules.specs.District.{District}
use Rattle.rules.specs.File.{decode_as, encode_as, leaderless}
use Rattle.rules.specs.Format.{plain_form, leader_form}

-- ---- up: to the form with leaders, of which none is set

unfoldable pub up_refusal : List ℕ → ℕ
up_refusal file = load_refusal_of (decode_as plain_form file)

-- the new file, where nothing refuses the old one
unfoldable pub up_file : List ℕ → List ℕ
up_file file = encode_as leader_form (loaded_of (decode_as plain_form file))

-- ---- down: to the form without leaders

-- the refusal of a leader that would be lost
abbrev pub lost_leader : District → ℕ
lost_leader d = unless (leaderless d) leader_set 0

-- what refuses the file comes first
unfoldable pub down_refusal : List ℕ → ℕ
down_refusal file = let read = decode_as leader_form file in or_later (load_refusal_of read) (lost_leader (loaded_of read))

unfoldable pub down_file : List ℕ → List ℕ
down_file file = encode_as plain_form (loaded_of (decode_as leader_form file))

-- ---- what each answers, and what a lent buffer then holds

-- refusal n of the old file, then that of a buffer without room for the new one, as in an export; where neither stands in the way, the new file
-- is written over the front of the buffer
unfoldable pub turned_into : ℕ → List ℕ → List ℕ → Export
turned_into n new buffer = exported (or_later n (unless (leb (length new) (length buffer)) buffer_too_short 0)) new buffer

unfoldable pub up_of : List ℕ → List ℕ → Export
up_of file buffer = turned_into (up_refusal file) (up_file file) buffer

unfoldable pub down_of : List ℕ → List ℕ → Export
down_of file buffer = turned_into (down_refusal file) (down_file file) buffer
