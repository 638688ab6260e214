-- What theorems/specs promises of a unit after every list of its calls, promised of each office after every list of calls made by both.
use Rattle.std.specs.Prelude.{ℕ, ◌+◌, ◌*◌, ◌≤◌, ◌≡◌, false, List, length}
use Rattle.rules.specs.District.{District, segments_of}
use Rattle.rules.specs.Page.{rows, lines}
use Rattle.rules.specs.Blocks.{followed}
use Rattle.rules.specs.Calls.{bar_refusal, page_of, show_of, why_of}
use Rattle.rules.specs.Demands.{file_in}
use Rattle.rules.specs.Stations.{own, StationCall, station_after, districts_after}
use Rattle.rules.specs.declared.Unit.{Unit}
use Rattle.rules.specs.declared.Reason.{Reason}
use Rattle.theorems.specs.Scale.{OnScale}
use Rattle.theorems.specs.Columns.{OnPage}
use Rattle.theorems.specs.Reasons.{Explained}
use Rattle.theorems.specs.GoodBudget.{AtCeiling, Optimal}
use Rattle.theorems.specs.BlockPlans.{InBlocks}
use Rattle.rules.specs.Answers.{Accepted}
use Rattle.rules.specs.declared.Which.{Which}

-- asked why, the unit names the first reason that holds
pub record NamesFirst (d : District) (u : Unit) (i j : ℕ) : Type 0 where
  pub reason : Reason
  pub answer : why_of u i j ≡ Accepted reason
  pub explained : Explained d (show_of u).strategies i j reason

-- of a district and the unit that holds it: ratings stay on their scale, the page can be read, one of the nine reasons is the answer, total and ceiling
-- say what they say, and the total is at least that of the blocks
pub record Promised (d : District) (u : Unit) : Type 0 where
  pub scale : OnScale d
  pub page : OnPage d (show_of u)
  pub written : (buffer : List ℕ) → (segments_of d + 3) * 81 ≤ length buffer → page_of u buffer ≡ file_in (lines (rows d (show_of u))) buffer
  pub reasons : (i j : ℕ) → bar_refusal d i j ≡ 0 → NamesFirst d u i j
  pub budget : followed u.choice d ≡ false → AtCeiling d (show_of u)
  pub optimal : Optimal d (show_of u)
  pub blocks : InBlocks u.choice d (show_of u)

abbrev pub EachOffice : Type 0
EachOffice = (cs : List StationCall) (w : Which) → Promised (own w (districts_after cs)) (own w (station_after cs)).unit
