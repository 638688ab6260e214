-- What request 2 of document 02 is for: a page that can be read. Its lines are all as long, every text has room in its column, and the figures
-- are the programme's own.
use Rattle.std.specs.Prelude.{ℕ, ◌+◌, ◌*◌, ◌≤◌, ◌<◌, ◌≡◌, List, [], pos, length, get_or}
use Rattle.base.specs.Over.{sum}
use Rattle.rules.specs.District.{District, segments_of, resources_of}
use Rattle.rules.specs.Rating.{benefit, usage, usage_by}
use Rattle.rules.specs.Table.{table_of}
use Rattle.rules.specs.Phases.{chosen_benefit, chosen_usage, used}
use Rattle.rules.specs.Page.{widths, rows, lines}
use Rattle.rules.specs.Calls.{page_of, show_of}
use Rattle.rules.specs.Lists.{Call, district_after, unit_after}
use Rattle.rules.specs.Demands.{file_in, strategy_in}
use Rattle.rules.specs.declared.Programme.{Programme}

-- from the blank to the tilde
abbrev pub Character : ℕ → Type 0
Character b = (32 ≤ b) × (b ≤ 126)

-- n lines, each of 80 characters and a line feed; k counts them from 0
pub record Lines (n : ℕ) (bs : List ℕ) : Type 0 where
  pub bytes : length bs ≡ n * 81
  pub characters : (k m : ℕ) → k < n → m < 80 → Character (get_or bs (k * 81 + m) 0)
  pub feeds : (k : ℕ) → k < n → get_or bs (k * 81 + 80) 0 ≡ 10

-- what stands for a segment is the benefit, and the use of each resource, of the strategy that it gets; a sum is that of these uses
pub record Figures (d : District) (p : Programme) : Type 0 where
  pub benefits : (i : ℕ) → 1 ≤ i → i ≤ segments_of d → pos (chosen_benefit (table_of d) p.strategies i) ≡ benefit d i (strategy_in p i)
  pub uses :
      (i r : ℕ) → 1 ≤ i → i ≤ segments_of d → 1 ≤ r → r ≤ resources_of d
      → chosen_usage (table_of d) p.strategies r i ≡ usage d i (strategy_in p i) r
  pub sums :
      (r : ℕ) → 1 ≤ r → r ≤ resources_of d
      → used (table_of d) p.strategies r ≡ sum (segments_of d) (usage_by d (strategy_in p) r)

-- of a district and the programme shown for it
pub record OnPage (d : District) (p : Programme) : Type 0 where
  -- a line for each segment, and three more
  pub lined : Lines (segments_of d + 3) (lines (rows d p))
  -- text n of row m is no wider than its column
  pub room : (m n : ℕ) → length (get_or (get_or (rows d p) m []) n []) ≤ get_or widths n 0
  pub figures : Figures d p

-- of a page made next: any buffer with room gets these lines
pub record Readable (cs : List Call) : Type 0 where
  pub shown : OnPage (district_after cs) (show_of (unit_after cs))
  pub written :
      (buffer : List ℕ) → (segments_of (district_after cs) + 3) * 81 ≤ length buffer
      → page_of (unit_after cs) buffer ≡ file_in (lines (rows (district_after cs) (show_of (unit_after cs)))) buffer

-- after any list of calls
abbrev pub EveryPage : Type 0
EveryPage = (cs : List Call) → Readable cs
