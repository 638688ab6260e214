-- The lines of the input, one after another, from a desk that events lead to.
use Rattle.std.specs.Prelude.{ℕ, ◌+◌, List, [], ◌∷◌, ◌++◌, ◌≡◌, take}
use Rattle.rules.specs.Calls.{show_of}
use Rattle.rules.specs.Demands.{Sound}
use Rattle.rules.specs.Desks.{Event, desk_after}
use Rattle.station.specs.Kept.{office_in}
use Rattle.desk.specs.Kept.{KeepsDesk}
use Rattle.command.specs.Reading.{longest_line}
use Rattle.panel.specs.Console.{State, LineLeads, KeepsState}
use Rattle.panel.specs.declared.Console.{Console}
use Rattle.rules.specs.declared.Which.{Which}

-- a console whose desk keeps what a list of events leads to
pub record ByEvents (c : Console) : Type 0 where
  pub events : List Event
  pub keeps : KeepsDesk c.desk (desk_after events)

-- a console that keeps a state that R is said of
pub record Keeping (R : State → Type 0) (c : Console) : Type 0 where
  pub state : State
  pub keeps : KeepsState c state
  pub is : R state

-- a line leads there, whatever is said
pub record Leads (s : State) (line : List ℕ) (t : State) : Type 0 where
  pub bytes : List ℕ
  pub leads : LineLeads s line t bytes

-- p is the console after a line
pub record Answered (c : Console) (line : List ℕ) (p : Console) : Type 0 where
  -- it keeps what the line leads to, from all that may be held before, and events lead to it too
  pub led : (s : State) → KeepsState c s → Keeping (Leads s line) p
  pub reached : ByEvents p
  -- demand 3 of each office, of the programme that a show prints
  pub sound : (w : Which) → Sound (office_in w c.desk.station).unit.district (show_of (office_in w c.desk.station).unit)

-- of a line only the first bytes are kept: enough to know that it is too long
abbrev pub kept_bytes : ℕ
kept_bytes = longest_line + 1

unfoldable pub keeping : List ℕ → ℕ → List ℕ
keeping line b = take kept_bytes (line ++ (b ∷ []))

-- bytes lead from a state and what stands of a line to another and what stands of a line then: each line feed has the line answered
pub data Feeds : State → List ℕ → List ℕ → State → List ℕ → Type 0 where
  end : {s : State} {line : List ℕ} → Feeds s line [] s line
  answer :
      {s t u : State} {line said bs last : List ℕ} → LineLeads s line t said → Feeds t [] bs u last
      → Feeds s line (10 ∷ bs) u last
  keep :
      {s u : State} {b : ℕ} {line bs last : List ℕ} → ¬ (b ≡ 10) → Feeds s (keeping line b) bs u last
      → Feeds s line (b ∷ bs) u last

abbrev pub FedTo : State → List ℕ → List ℕ → List ℕ → State → Type 0
FedTo s line bytes last t = Feeds s line bytes t last

-- the console p after the bytes, with what stands of a line then
pub record Fed (c : Console) (line bytes left : List ℕ) (p : Console) : Type 0 where
  pub fed : (s : State) → KeepsState c s → Keeping (FedTo s line bytes left) p
  pub reached : ByEvents p
