-- What the code finds, as the definitions have it.
use Rattle.std.specs.Prelude.{ℕ, ◌+◌, ◌≡◌, List, [], take, drop, Option, None, Some, Result, Ok, Err}
use Rattle.std.specs.Borrow.{Bor}
use Rattle.rules.specs.District.{District}
use Rattle.grammar.specs.Slots.{form_number, slot_in}
use Rattle.grammar.specs.declared.kinds.Form.{Form}
use Rattle.texts.specs.Words.{Words, words_in, Line, is_line_feed, parts, lines_in, lines_from}
use Rattle.texts.specs.Complaints as C
use Rattle.texts.specs.Reading.{Reading, wrong, found, Formed}
use Rattle.texts.specs.declared.faults.Complaint.{Complaint}
use Rattle.texts.specs.declared.faults.Complaint.TheVariants.{TooLong, InLine}
use Rattle.texts.specs.declared.remaining.Remaining.{Remaining}
use Rattle.texts.specs.Places as P
use Rattle.texts.specs.declared.refused.Place.{Place}
use Rattle.texts.specs.declared.refused.Place.TheVariants.{EndsWithin, OtherKind, OtherLength, OutOfRange as OutsideRange, BehindEnd as FollowsEnd}
use Rattle.texts.specs.declared.faults.Fault.{Fault}
use Rattle.texts.specs.declared.faults.Fault.TheVariants.{OtherWord, NumberMissing, NoNumber, OutOfRange, NumberTooMany, BehindEnd, EndMissing}

abbrev pub fault_in : Fault → C.Fault
fault_in (OtherWord w kind) = C.OtherWord w.now kind
fault_in (NumberMissing stand due) = C.NumberMissing stand due
fault_in (NoNumber w) = C.NoNumber w.now
fault_in (OutOfRange w lo hi) = C.OutOfRange w.now lo hi
fault_in (NumberTooMany due) = C.NumberTooMany due
fault_in BehindEnd = C.BehindEnd
fault_in (EndMissing kind) = C.EndMissing kind

-- with what follows it
abbrev pub reading_in : {A R : Type 0} → Result A Fault → R → Reading C.Fault A R
reading_in (Ok x) rest = found x rest
reading_in (Err f) rest = wrong (fault_in f)

-- a value, and the bytes whose words follow it
abbrev pub reading_of : {A : Type 0} → Result (A × Bor (List ℕ)) Fault → Reading C.Fault A Words
reading_of (Ok (x, rest)) = found x (words_in rest.now)
reading_of (Err f) = wrong (fault_in f)

-- the numbers read stand at their places of the district, those before are as they were, and no word is left
abbrev pub Finds : Reading C.Fault (List ℕ) Words → ℕ → ℕ → District → District → Result (Unit {0}) Fault → Type 0
Finds read place places old d (Ok u) = (read ≡ found (take places (drop place d)) []) × (take place d ≡ take place old)
Finds read place places old d (Err f) = read ≡ wrong (fault_in f)

-- ---- the lines of a text that are still to be read

-- those of them that have words
abbrev pub lines_left : Remaining → List Line
lines_left r = lines_from r.number (parts is_line_feed r.bytes.now)

-- the number of the line behind the last
abbrev pub behind : Remaining → ℕ
behind r = r.number + lines_in r.bytes.now

-- ---- records

abbrev pub complaint_in : Complaint → C.Complaint
complaint_in TooLong = C.TooLong
complaint_in (InLine n f) = C.InLine n (fault_in f)

-- as Finds, with the lines that are left
abbrev pub FindsRecord : Reading C.Complaint (List ℕ) (List Line) → ℕ → ℕ → ℕ → District → District → Result Remaining Complaint → Type 0
FindsRecord read last place places old d (Ok r) = (read ≡ found (take places (drop place d)) (lines_left r)) × (take place d ≡ take place old) × (behind r ≡ last)
FindsRecord read last place places old d (Err c) = read ≡ wrong (complaint_in c)

-- all records
abbrev pub records_in : District → Result (Unit {0}) Complaint → Reading C.Complaint District (List Line)
records_in d (Ok u) = found d []
records_in d (Err c) = wrong (complaint_in c)

-- ---- a text

abbrev pub formed_in : District → Result Form Complaint → Result Formed C.Complaint
formed_in d (Ok form) = Ok (record { form = form_number form; district = d })
formed_in d (Err c) = Err (complaint_in c)

-- ---- places of a file

abbrev pub place_of : Place → P.Place
place_of (EndsWithin p s) = P.EndsWithin p (slot_in s)
place_of (OtherKind p kind due) = P.OtherKind p kind due
place_of (OtherLength p s size due) = P.OtherLength p (slot_in s) size due
place_of (OutsideRange p s q v lo hi) = P.OutOfRange p (slot_in s) q v lo hi
place_of (FollowsEnd n) = P.BehindEnd n

abbrev pub refused_in : {A : Type 0} → Result A Place → Option P.Place
refused_in (Ok x) = None
refused_in (Err place) = Some (place_of place)
