-- What is promised of a station (document 02, request 10): the demands, of each office after every list of calls made by both; and that the calls of
-- one office change an answer to the other through a load that changes the shared tables, and through refusal 17, alone.
use Rattle.std.specs.Prelude.{ℕ, suc, ◌≤◌, ◌≡◌, Bool, true, false, not, ◌&&◌, List, [], ◌∷◌, eqb, length}
use Rattle.std.specs.Prelude.{Option, None, Some}
use Rattle.base.specs.Bytes.{Bytes}
use Rattle.base.specs.Choice.{pick}
use Rattle.rules.specs.District.{District, segments_of, shared_tables, same_tables}
use Rattle.rules.specs.Format.{plain_form}
use Rattle.rules.specs.File.{encode_as, encode}
use Rattle.rules.specs.Answers.{no_such_office, tables_in_use, Answer, Accepted, Answered}
use Rattle.rules.specs.Calls.{district_in, unit_with, unit_of, show_of, why_of, Why}
use Rattle.rules.specs.Lists.{Call, Load, Alter, ChooseBlocks, ExportTo, PageTo, Show, AskWhy, district_after, choice_after, unit_after}
use Rattle.rules.specs.Meter.{heard_after, roughness_of}
use Rattle.rules.specs.Offices.{Held, OfficeCall, Plan, Send, AskRoughness, office_outcome, sent_in}
use Rattle.rules.specs.Stations.{other, Both, own, together, office_of, fresh_both, StationCall, call_of, call_by, brings_tables, with_tables, held_beside, station_refusal, StationOutcome, refused_all, station_outcome, station_after, districts_after, choices_after, made_by, calls_by, without}
use Rattle.rules.specs.Demands.{office_returned, office_altered, file_in, led_by_none, ByTheRules, Sound, Shown}
use Rattle.rules.specs.declared.Unit.{Unit}
use Rattle.rules.specs.declared.Programme.{Programme}
use Rattle.rules.specs.declared.Roughness.{Roughness}
use Rattle.rules.specs.declared.Which.{Which}

-- ---- Demand 1, of what both hold in any state and any call

pub record StationSettled (b : Both Held) (c : OfficeCall) : Type 0 where
  -- a call of an office that nothing refuses gives the full result that the office alone would give, and leaves the lent bytes as it would. The office
  -- then holds what it would hold alone, and the other what it held, or new tables;
  pub accepted : (w : Which) → station_refusal b (call_by w c) ≡ 0 → (station_outcome b (call_by w c)).answer ≡ Accepted (office_returned (own w b) c)
  pub bytes : (w : Which) → station_refusal b (call_by w c) ≡ 0 → (station_outcome b (call_by w c)).bytes ≡ (office_outcome (own w b) c).bytes
  pub held :
      (w : Which) → station_refusal b (call_by w c) ≡ 0
      → (station_outcome b (call_by w c)).held ≡ together w (office_altered (own w b) c) (held_beside (own w b) (own (other w) b) c)
  -- any other gives the number of the first condition, and what both hold and the lent bytes stay as they were;
  pub refused : (w : Which) (n : ℕ) → station_refusal b (call_by w c) ≡ suc n → station_outcome b (call_by w c) ≡ refused_all (suc n) b c
  -- that is so too where the number is no office's
  pub nobody : (n : ℕ) → ¬ (n ≡ 1) → ¬ (n ≡ 2) → station_outcome b (call_of n c) ≡ refused_all no_such_office b c

abbrev pub EveryStationAnswer : Type 0
EveryStationAnswer = (b : Both Held) (c : OfficeCall) → StationSettled b c

-- ---- Demand 2, of a file and a station in any state

-- office w loads it,
abbrev pub load_by : Both Held → Which → List ℕ → StationOutcome
load_by b w file = station_outcome b (call_by w (Plan (Load file)))

-- and then exports, into a buffer
abbrev pub back_to : Both Held → Which → List ℕ → List ℕ → StationOutcome
back_to b w file buffer = station_outcome (load_by b w file).held (call_by w (Plan (ExportTo buffer)))

-- an accepted export of a file, which leaves what both hold
abbrev pub file_from : Both Held → List ℕ → List ℕ → StationOutcome
file_from b file buffer = let x = file_in file buffer in record { answer = x.answer; held = b; bytes = x.buffer }

-- each file that loads comes back, into any buffer with room, as it does from a unit (Demands.ByteForByte):
pub record StationFile (b : Both Held) (w : Which) (file : List ℕ) : Type 0 where
  -- it is the file, byte for byte,
  pub same :
      Bytes file → station_refusal b (call_by w (Plan (Load file))) ≡ 0 → led_by_none file ≡ false → (buffer : List ℕ) → length file ≤ length buffer
      → back_to b w file buffer ≡ file_from (load_by b w file).held file buffer
  -- or, where leaders could stand but none is set, the file without them
  pub plain :
      station_refusal b (call_by w (Plan (Load file))) ≡ 0 → led_by_none file ≡ true → (buffer : List ℕ)
      → length (encode_as plain_form (district_in file)) ≤ length buffer
      → back_to b w file buffer ≡ file_from (load_by b w file).held (encode_as plain_form (district_in file)) buffer

abbrev pub EveryStationFile : Type 0
EveryStationFile = (b : Both Held) (w : Which) (file : List ℕ) → StationFile b w file

-- ---- Demands 2 and 3, after any list of calls made by both

-- the export of a district d, loaded by office w of a station in any state
abbrev pub reload : District → Both Held → Which → StationOutcome
reload d b w = load_by b w (encode d)

-- accepted, it gives the district, planned without blocks, beside what the other then holds
abbrev pub reloaded_beside : District → Both Held → Which → Held → StationOutcome
reloaded_beside d b w p =
    record { answer = Accepted 0; held = together w (record { unit = unit_of d; heard = (own w b).heard }) p; bytes = encode d }

pub record Reloads (d : District) (b : Both Held) (w : Which) : Type 0 where
  -- where the station holds the same shared tables, nothing else changes;
  pub same : same_tables (own w b).unit.district d ≡ true → reload d b w ≡ reloaded_beside d b w (own (other w) b)
  -- where the other office has no segments, as in a fresh station, it gets the tables;
  pub alone :
      same_tables (own w b).unit.district d ≡ false → segments_of (own (other w) b).unit.district ≡ 0
      → reload d b w ≡ reloaded_beside d b w (with_tables d (own (other w) b))
  -- into any other station it does not load
  pub in_use :
      same_tables (own w b).unit.district d ≡ false → ¬ (segments_of (own (other w) b).unit.district ≡ 0)
      → reload d b w ≡ refused_all tables_in_use b (Plan (Load (encode d)))

-- of office w
pub record StationClaim (cs : List StationCall) (w : Which) : Type 0 where
  -- its unit is the plan for its district by the blocks that it chose, and both follow from the calls of both;
  pub planned : (own w (station_after cs)).unit ≡ unit_with (own w (choices_after cs)) (own w (districts_after cs))
  -- it is one that a list of calls on a unit of its own leads to, so that whatever holds after every such list holds of it;
  pub calls : List Call
  pub unit : (own w (station_after cs)).unit ≡ unit_after calls
  pub district : district_after calls ≡ own w (districts_after cs)
  pub choice : choice_after calls ≡ own w (choices_after cs)
  pub rules : ByTheRules calls
  pub sound : Sound (own w (districts_after cs)) (show_of (own w (station_after cs)).unit)
  pub shown : Shown (own w (districts_after cs)) (show_of (own w (station_after cs)).unit)
  -- of its meter its own records were heard, and nothing else;
  pub heard : (own w (station_after cs)).heard ≡ heard_after (sent_in (calls_by w cs))
  -- the export gives it back
  pub reloaded : (b : Both Held) (v : Which) → Reloads (own w (districts_after cs)) b v

abbrev pub EveryStation : Type 0
EveryStation = (cs : List StationCall) (w : Which) → StationClaim cs w

-- the shared tables are shared
abbrev pub TablesAgree : Type 0
TablesAgree = (cs : List StationCall) → shared_tables (districts_after cs).first ≡ shared_tables (districts_after cs).second

-- ---- Leaving out

-- what some calls tell besides their answer: a show the programme, a why its reason, the question for roughness points and marker
pub data Told : Type 0 where
  nothing_more : Told
  programme : Programme → Told
  reason : Why → Told
  points : Answered Roughness → Told

unfoldable pub unit_tells : Unit → Call → Told
unit_tells u (Load file) = nothing_more
unit_tells u (Alter e) = nothing_more
unit_tells u (ChooseBlocks row) = nothing_more
unit_tells u (ExportTo buffer) = nothing_more
unit_tells u (PageTo buffer) = nothing_more
unit_tells u Show = programme (show_of u)
unit_tells u (AskWhy i j) = reason (why_of u i j)

unfoldable pub office_tells : Held → OfficeCall → Told
office_tells o (Plan c) = unit_tells o.unit c
office_tells o (Send s) = nothing_more
office_tells o AskRoughness = points (roughness_of o.heard)

abbrev pub told_to : Option Which → Both Held → OfficeCall → Told
told_to None b c = nothing_more
told_to (Some w) b c = office_tells (own w b) c

-- all that a caller gets: the answer, the lent bytes as they come back, and what is told
pub record Got : Type 0 where
  pub answer : Answer
  pub bytes : List ℕ
  pub told : Told

abbrev pub got : StationOutcome → Told → Got
got o told = record { answer = o.answer; bytes = o.bytes; told = told }

unfoldable pub gets : Both Held → StationCall → Got
gets b c = got (station_outcome b c) (told_to (office_of c.office) b c.call)

-- what the calls of office w get, one after another, in a list made by both
unfoldable pub got_from : Which → Both Held → List StationCall → List Got
got_from w b [] = []
got_from w b (c ∷ cs) =
    pick (made_by w c) (gets b c ∷ got_from w (station_outcome b c).held cs) (got_from w (station_outcome b c).held cs)

unfoldable pub got_by : Which → List StationCall → List Got
got_by w cs = got_from w fresh_both cs

-- a test of each call of a list, with what is held before it
unfoldable pub throughout : (Both Held → StationCall → Bool) → Both Held → List StationCall → Bool
throughout test b [] = true
throughout test b (c ∷ cs) = test b c && throughout test (station_outcome b c).held cs

-- the call is not a load of office w that changes the shared tables
unfoldable pub leaves_tables : Which → Both Held → StationCall → Bool
leaves_tables w b c = not (made_by w c && (eqb (station_refusal b c) 0 && brings_tables (own w b).unit.district c.call))

-- the call is not one of office w that gets 17
unfoldable pub not_in_use : Which → Both Held → StationCall → Bool
not_in_use w b c = not (made_by w c && eqb (station_refusal b c) tables_in_use)

-- where the loads of office a change no shared tables, and no call of the other gets 17, the other gets what it gets without the calls of a
abbrev pub LeavingOut : Type 0
LeavingOut =
    (a : Which) (cs : List StationCall)
    → throughout (leaves_tables a) fresh_both cs ≡ true
    → throughout (not_in_use (other a)) fresh_both cs ≡ true
    → got_by (other a) (without a cs) ≡ got_by (other a) cs
