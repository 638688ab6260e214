-- The three demands on the unit, as statements. Document 01 refers to them by number; docs/CLAIMS.md has their sentences.
use Rattle.std.specs.Prelude.{ℕ, suc, ◌+◌, ◌≤◌, ◌<◌, ◌≡◌, Bool, true, false, ◌&&◌, ◌||◌, List, ◌++◌, leb, eqb, pos, ◌≤ℤ◌, length, drop}
use Rattle.std.specs.Prelude.{None}
use Rattle.std.specs.Int.Signed.{lt_z}
use Rattle.base.specs.Bytes.{Bytes}
use Rattle.base.specs.Over.{all}
use Rattle.base.specs.Search.{Run}
use Rattle.rules.specs.District.{District, most_segments, segments_of, strategies_of, leader_of}
use Rattle.rules.specs.Format.{plain_form, leader_form}
use Rattle.rules.specs.File.{form_in, leaderless, encode_as, encode}
use Rattle.rules.specs.Rating.{permitted, benefit, within_limits, total_of}
use Rattle.rules.specs.Table.{Table, table_of}
use Rattle.rules.specs.Phases.{strategy_at, within, heeds, pick_up, change}
use Rattle.rules.specs.Page.{page_length}
use Rattle.rules.specs.Plan.{filled, improved, programme_of}
use Rattle.rules.specs.Blocks.{followed, block_district, block_table, block_reduced, begun, programme_by}
use Rattle.rules.specs.Answers.{no_such_points, window_empty, Accepted, Refused}
use Rattle.rules.specs.Survey.{block_of, points_of, survey_refusal, survey_of}
use Rattle.rules.specs.Calls.{load_refusal, district_in, unit_of, load_of, Export, export_of, show_of}
use Rattle.rules.specs.Lists.{Call, Load, Alter, ChooseBlocks, ExportTo, PageTo, Show, AskWhy, refusal_of, altered, chosen, lent_to, outcome_of, district_after, choice_after, unit_after}
use Rattle.rules.specs.Meter.{Heard, heard_with, heard_after, window_of, mays_points, roughness_refusal, points_at, roughness_of}
use Rattle.rules.specs.Offices.{Held, OfficeCall, Plan, Send, AskRoughness, office_refusal, lent_bytes, office_outcome, held_after, unit_calls, sent_in}
use Rattle.rules.specs.declared.Programme.{Programme}
use Rattle.rules.specs.declared.Unit.{Unit}

-- ---- Demand 1, every answer is settled

-- what an accepted call returns: the length for an export and a page, else 0
unfoldable pub returned : District → Call → ℕ
returned d (Load file) = 0
returned d (Alter e) = 0
returned d (ChooseBlocks row) = 0
returned d (ExportTo buffer) = length (encode d)
returned d (PageTo buffer) = page_length d
returned d Show = 0
returned d (AskWhy i j) = 0

-- of a unit in any state and any call; the programme that goes with district and choice is Calls.unit_with's, and Demand 2 has it after any list
pub record Settled (u : Unit) (c : Call) : Type 0 where
  -- a call that nothing refuses gives a full result, and the unit then holds district and choice as the call alters them;
  pub accepted : refusal_of u.district c ≡ 0 → (outcome_of u c).answer ≡ Accepted (returned u.district c)
  pub held : refusal_of u.district c ≡ 0 → (outcome_of u c).unit.district ≡ altered u.district c
  pub choice : refusal_of u.district c ≡ 0 → (outcome_of u c).unit.choice ≡ chosen u.choice c
  -- any other gives the number of the first condition, and unit and lent bytes stay as they were
  pub refused :
      (n : ℕ) → refusal_of u.district c ≡ suc n
      → outcome_of u c ≡ record { answer = Refused (suc n); unit = u; bytes = lent_to c }

-- survey points, which takes no unit: the table's entry, or its refusal
pub record PointsSettled (code degree extent seal : ℕ) : Type 0 where
  pub accepted :
      survey_refusal code degree extent seal ≡ 0
      → survey_of code degree extent seal ≡ Accepted (points_of (block_of code seal) degree extent)
  pub refused : ¬ (survey_refusal code degree extent seal ≡ 0) → survey_of code degree extent seal ≡ Refused no_such_points

abbrev pub EveryAnswer : Type 0
EveryAnswer = (u : Unit) (c : Call) → Settled u c

abbrev pub EveryPoints : Type 0
EveryPoints = (code degree extent seal : ℕ) → PointsSettled code degree extent seal

-- ---- Demand 2, the rules exactly

-- phase 1, r, ends when every limit holds, and phases 2 and 3 when there is nothing more to do: none because its bound is used up
pub record Finished (t : Table) (leader : ℕ → ℕ) (r : Run (List ℕ)) : Type 0 where
  pub steps : within t r.last ≡ true
  pub pickups : pick_up t leader (filled t leader r).last ≡ None
  pub changes : change t leader (improved t leader r).last ≡ None

-- an accepted export of a file
abbrev pub file_in : List ℕ → List ℕ → Export
file_in file buffer = record { answer = Accepted (length file); buffer = file ++ drop (length file) buffer }

-- of the unit after any list of calls
pub record ByTheRules (cs : List Call) : Type 0 where
  pub district : (unit_after cs).district ≡ district_after cs
  pub choice : (unit_after cs).choice ≡ choice_after cs
  pub programme : show_of (unit_after cs) ≡ programme_by (choice_after cs) (district_after cs)
  pub finished :
      Finished (table_of (district_after cs)) (leader_of (district_after cs)) (begun (choice_after cs) (district_after cs))
  -- so do those of each block by itself, be the choice followed or not
  pub blocks :
      (b : ℕ)
      → Finished (block_table (choice_after cs) (district_after cs) b) (leader_of (block_district (choice_after cs) (district_after cs) b))
      (block_reduced (choice_after cs) (district_after cs) b)
  -- its export, into any buffer with room, is the district's file,
  pub exported :
      (buffer : List ℕ) → length (encode (district_after cs)) ≤ length buffer
      → export_of (unit_after cs) buffer ≡ file_in (encode (district_after cs)) buffer
  -- which gives the same district when it is loaded into a unit in any state, planned without blocks; and that plan is the one shown where no
  -- blocks are followed
  pub reloaded : (u : Unit) → load_of u (encode (district_after cs)) ≡ record { answer = Accepted 0; unit = unit_of (district_after cs) }
  pub ordinary : show_of (unit_of (district_after cs)) ≡ programme_of (table_of (district_after cs)) (leader_of (district_after cs))
  pub unblocked : followed (choice_after cs) (district_after cs) ≡ false → show_of (unit_after cs) ≡ show_of (unit_of (district_after cs))

abbrev pub TheRules : Type 0
TheRules = (cs : List Call) → ByTheRules cs

-- a file in the form with leaders that sets none (document 02, request 8)
abbrev pub led_by_none : List ℕ → Bool
led_by_none file = eqb (form_in file) leader_form && leaderless (district_in file)

-- of every file that loads, into a unit in any state, and the export that follows, into any buffer with room:
pub record ByteForByte (file : List ℕ) : Type 0 where
  -- it is the file, byte for byte,
  pub same :
      Bytes file → load_refusal file ≡ 0 → led_by_none file ≡ false → (u : Unit) (buffer : List ℕ) → length file ≤ length buffer
      → export_of (load_of u file).unit buffer ≡ file_in file buffer
  -- or, where leaders could stand but none is set, the file without them of the same district
  pub plain :
      load_refusal file ≡ 0 → led_by_none file ≡ true → (u : Unit) (buffer : List ℕ)
      → length (encode_as plain_form (district_in file)) ≤ length buffer
      → export_of (load_of u file).unit buffer ≡ file_in (encode_as plain_form (district_in file)) buffer

abbrev pub EveryFile : Type 0
EveryFile = (file : List ℕ) → ByteForByte file

-- ---- Demand 3, one claim over every list of calls. A programme c gives segment i the strategy c i.

-- segment i has nothing, or one strategy that is permitted for it
unfoldable pub permitted_at : District → (ℕ → ℕ) → ℕ → Bool
permitted_at d c i = eqb (c i) 0 || (leb (c i) (strategies_of d) && permitted d i (c i))

unfoldable pub all_permitted : District → (ℕ → ℕ) → Bool
all_permitted d c = all (segments_of d) (permitted_at d c)

-- a programme over permitted strategies, within the limits
pub record Feasible (d : District) (c : ℕ → ℕ) : Type 0 where
  pub permitted : all_permitted d c ≡ true
  pub within : within_limits d c ≡ true

-- document 02, request 8: no segment has a strategy whose leader has nothing
unfoldable pub leaders_respected : District → (ℕ → ℕ) → Bool
leaders_respected d c = all (segments_of d) (heeds (leader_of d) c)

-- segment i has no leader, or one that has nothing or a strategy of a benefit above 0
unfoldable pub leader_worth : District → (ℕ → ℕ) → ℕ → Bool
leader_worth d c i =
    eqb (leader_of d i) 0 || (eqb (c (leader_of d i)) 0 || lt_z (pos 0) (benefit d (leader_of d i) (c (leader_of d i))))

unfoldable pub leaders_worth : District → (ℕ → ℕ) → Bool
leaders_worth d c = all (segments_of d) (leader_worth d c)

-- a rival of the programme: it respects leaders too, and no segment that another names as its leader has a strategy without benefit
pub record Rival (d : District) (c : ℕ → ℕ) : Type 0 where
  pub feasible : Feasible d c
  pub leaders : leaders_respected d c ≡ true
  pub worth : leaders_worth d c ≡ true

-- two programmes that differ in no segments but i and k: one or two segments apart
pub record Apart (d : District) (i k : ℕ) (c e : ℕ → ℕ) : Type 0 where
  pub elsewhere : (m : ℕ) → 1 ≤ m → m ≤ segments_of d → ¬ (m ≡ i) → ¬ (m ≡ k) → c m ≡ e m

abbrev pub strategy_in : Programme → ℕ → ℕ
strategy_in p i = strategy_at p.strategies i

-- the claim, of a district and the programme shown for it
pub record Sound (d : District) (p : Programme) : Type 0 where
  -- the programme is permitted and within the limits, and respects leaders;
  pub feasible : Feasible d (strategy_in p)
  pub leaders : leaders_respected d (strategy_in p) ≡ true
  -- of the rivals one or two segments away, over permitted strategies, none has a greater total;
  pub neighbours :
      (c : ℕ → ℕ) → Rival d c → (i k : ℕ) → Apart d i k (strategy_in p) c → total_of d c ≤ℤ total_of d (strategy_in p)
  -- of all programmes, none has a total above the ceiling
  pub ceiling : (c : ℕ → ℕ) → Feasible d c → total_of d c ≤ℤ pos p.ceiling

-- what else "The calls" says of a show
pub record Shown (d : District) (p : Programme) : Type 0 where
  pub total : total_of d (strategy_in p) ≡ pos p.total
  pub places : length p.strategies ≡ most_segments
  pub past : (i : ℕ) → segments_of d < i → strategy_in p i ≡ 0
  pub changes : p.after_pickups + p.changes ≤ p.total

-- of the programme that the next show gives
pub record Claim (cs : List Call) : Type 0 where
  pub sound : Sound (district_after cs) (show_of (unit_after cs))
  pub shown : Shown (district_after cs) (show_of (unit_after cs))

abbrev pub OneClaim : Type 0
OneClaim = (cs : List Call) → Claim cs

-- ---- all calls of an office, those of its unit and those of its meter

unfoldable pub office_returned : Held → OfficeCall → ℕ
office_returned o (Plan c) = returned o.unit.district c
office_returned o (Send s) = 0
office_returned o AskRoughness = 0

-- what is held after a call that is not refused
unfoldable pub office_altered : Held → OfficeCall → Held
office_altered o (Plan c) = record { unit = (outcome_of o.unit c).unit; heard = o.heard }
office_altered o (Send s) = record { unit = o.unit; heard = heard_with o.heard s }
office_altered o AskRoughness = o

-- demand 1, of what is held in any state and any call
pub record OfficeSettled (o : Held) (c : OfficeCall) : Type 0 where
  pub accepted : office_refusal o c ≡ 0 → (office_outcome o c).answer ≡ Accepted (office_returned o c)
  pub held : office_refusal o c ≡ 0 → (office_outcome o c).held ≡ office_altered o c
  pub refused :
      (n : ℕ) → office_refusal o c ≡ suc n
      → office_outcome o c ≡ record { answer = Refused (suc n); held = o; bytes = lent_bytes c }

-- after any list of calls: the unit is the one that its own calls lead to, by the rules and with the claim of demand 3; and of the meter its
-- own records were heard, and nothing else
pub record OfficeClaim (cs : List OfficeCall) : Type 0 where
  pub unit : (held_after cs).unit ≡ unit_after (unit_calls cs)
  pub heard : (held_after cs).heard ≡ heard_after (sent_in cs)
  pub rules : ByTheRules (unit_calls cs)
  pub sound : Sound (district_after (unit_calls cs)) (show_of (held_after cs).unit)
  pub shown : Shown (district_after (unit_calls cs)) (show_of (held_after cs).unit)

-- the points themselves, as survey points: the Mays rows' with the marker's bits, or the refusal
pub record RoughnessSettled (h : Heard) : Type 0 where
  pub accepted : roughness_refusal h ≡ 0 → roughness_of h ≡ Accepted (points_at (mays_points (window_of h)) h.marker)
  pub refused : ¬ (roughness_refusal h ≡ 0) → roughness_of h ≡ Refused window_empty

abbrev pub EveryOfficeAnswer : Type 0
EveryOfficeAnswer = (o : Held) (c : OfficeCall) → OfficeSettled o c

abbrev pub EveryRoughness : Type 0
EveryRoughness = (h : Heard) → RoughnessSettled h

abbrev pub EveryOffice : Type 0
EveryOffice = (cs : List OfficeCall) → OfficeClaim cs
