-- How long an exported file and a complaint are at most; and from what a command says to what is claimed of a line.
use Prim.Native.Nat.{ℕ, ◌+◌, ◌≤◌}
use mathlib.Core.Bool.{Bool, true, false}
use mathlib.Core.List.{List, [], ◌++◌}
use mathlib.Core.Path.{◌≡◌, refl, sym, ap, subst, ◌∙◌}
use native.Mathlib.Omega.{arith}
use lib.Dec.{leb}
use lib.ListN.{length, length-append}
use borrow.Author.Tests.{leb-true}
use Rattle.base.specs.Text.{text, Put}
use Rattle.listing.specs.Listing.{refusal as Listing·refusal, done, stepped as Listing·stepped, stepped_in, failed}
use Rattle.rules.specs.Answers.{buffer_too_short, unless, answer_of, Accepted}
use Rattle.rules.specs.Calls.{export_refusal, exported, export_of}
use Rattle.rules.specs.File.{encode}
use Rattle.rules.specs.Lists.{ExportTo, outcome_of}
use Rattle.rules.specs.Offices.{Held, Plan, office_outcome}
use Rattle.rules.specs.Desks.{Desk, Event}
use Rattle.rules.specs.Stations.{Both, own, office_of, call_of, brings_tables, StationOutcome, station_outcome}
use Rattle.rules.specs.declared.Unit.{Unit}
use Rattle.command.proofs.Reading.{path_fits}
use Rattle.command.specs.Reading.{path_of, command_in}
use Rattle.command.specs.declared.Command.{Command}
use Rattle.std.specs.Prelude.{Option, None, Some, Result, Ok, Err}
use denote.Ref.{Bor}
use Rattle.rules.specs.declared.refusals.Refusal.{Refusal}
use Rattle.rules.specs.Answers.{refusal_number as refusal_number}
use Rattle.station.proofs.Numbers.{some_named}
use Rattle.station.proofs.Questions.{told_nobody, told_named}
use Rattle.station.specs.Kept.{KeepsBoth, office_in}
use Rattle.desk.specs.Kept.{KeepsDesk, DeskReply, ReportsEvent, Steps, stepped}
use Rattle.desk.specs.declared.Desk.{Desk as Desk·Held}
use Rattle.desk.proofs.Steps.{step_console, step_happens}
use Rattle.rules.specs.declared.Console.{Console as Console·Number}
use Rattle.panel.specs.Console as Console
use Rattle.panel.specs.Console.{State, state_of, answered, happened, printed_for, printed, said, after, after_blocks, said_blocks, LineLeads, KeepsState, Turn, turn, UnitNamed, Tells, Turns}
use Rattle.panel.specs.Lines.{Keeping, Leads}
use Rattle.panel.specs.declared.Console.{Console}
use Rattle.rules.specs.declared.Which.{Which}
use Rattle.rules.specs.declared.Which.TheVariants.{First}
use Rattle.rules.specs.District.{resources_of}
use Rattle.office.specs.declared.Office.{Office}

-- ---- lengths

pub answer_of_lem : {a b : StationOutcome} → a ≡ b → a.answer ≡ b.answer
answer_of_lem e = ap (λ (o : StationOutcome). o.answer) e

-- an export that is accepted has room
accepted_fits : (size room n : ℕ) → answer_of (unless (leb size room) buffer_too_short 0) size ≡ Accepted n → n ≤ room
unfolding answer_of
accepted_fits size room n e = go (leb size room) refl e
  where
    go : (t : Bool) → leb size room ≡ t → answer_of (unless t buffer_too_short 0) size ≡ Accepted n → n ≤ room
    go true l e =
        let same : size ≡ n = cc in
        omega (arith, leb-true size room l)
    go false l e = cc

pub export_fits : (b : Both Held) (n : ℕ) (buffer : List ℕ) (m : ℕ) → (station_outcome b (call_of n (Plan (ExportTo buffer)))).answer ≡ Accepted m → m ≤ length buffer
unfolding brings_tables office_outcome outcome_of export_of exported export_refusal
export_fits b n buffer m e = go (office_of n) refl
  where
    go : (o : Option Which) → office_of n ≡ o → m ≤ length buffer
    go None is =
        let refused = sym (answer_of_lem (told_nobody b n (Plan (ExportTo buffer)) is)) ∙ e in
        cc
    go (Some w) is =
        let alone = told_named b n (Plan (ExportTo buffer)) (λ d. refl) w (some_named n w is) _ _ refl in
        accepted_fits (length (encode (own w b).unit.district)) (length buffer) m (sym (answer_of_lem alone) ∙ e)

pub failed_length : (what path : List ℕ) → length (failed what path) ≡ length what + length path + 1
unfolding failed text
failed_length what path = omega (arith, length-append what (path ++ text "\n"), length-append path (text "\n"))

-- a line's path has room where the line has
pub path_short : (line path : List ℕ) (most : ℕ) → path ≡ path_of line → length line ≤ most → length path ≤ most
path_short line path most e h = omega (arith, ap length e, path_fits line)

-- ---- what is printed of an office's unit

module _ (print : Unit → List ℕ) (c : Console) (b : Both Held) (k : KeepsBoth c.desk.station b) where
  pub printed_own : (unit : Bor Unit) → UnitNamed c (Ok unit) → print unit.now ≡ printed print b c.office
  unfolding UnitNamed
  printed_own unit named = rw (named.1.0, named.1.1) (ap print (k named.0).unit)

  pub printed_none : (refusal : Refusal) → UnitNamed c (Err refusal) → Listing·refusal (refusal_number refusal) ≡ printed print b c.office
  unfolding UnitNamed
  printed_none refusal named = rw (named.0, named.1)

-- the resources of the first office are those of what it keeps
pub parts_kept :
    {d : Desk·Held} {h : Desk} {o : Office} → KeepsDesk d h → o ≡ office_in First d.station
    → resources_of o.unit.district ≡ resources_of h.held.first.unit.district
parts_kept k e = ap (λ (x : Office). resources_of x.unit.district) e ∙ ap (λ (u : Unit). resources_of u.district) (k.station First).unit

-- ---- what is told

-- nothing changes
pub stays :
    {c : Console} {h : Desk} {bs old new : List ℕ} {n : ℕ} → KeepsDesk c.desk h → Put bs old new n
    → Tells (state_of h c.office) bs old new (turn c n)
stays k p = record { keeps = record { desk = k; office = refl }; put = p }

-- and nothing is said
pub silent : {c : Console} {h : Desk} {old : List ℕ} → KeepsDesk c.desk h → Tells (state_of h c.office) [] old old (turn c 0)
silent k = stays k record { count = refl; bytes = refl }

-- the reply to an event
pub replied :
    {c : Console} {h : Desk} {e : Event} {reply : DeskReply} {old new : List ℕ} {n : ℕ}
    → ReportsEvent h e reply → c.desk ≡ reply.desk → Put (done reply.answer) old new n
    → Tells (happened (state_of h c.office) e) (done (answered (state_of h c.office) e)) old new (turn c n)
replied p same put = record { keeps = record { desk = rw same p.desk; office = refl }; put = rw p.answer at put }

-- what is said of a step is said of what it gives
step_said : (r : Option (Console·Number × Result ℕ Refusal)) (d : Desk·Held) → stepped_in r ≡ Listing·stepped (stepped r d).console (stepped r d).answer
step_said None d = refl
step_said (Some t) d = refl

step_desk : (r : Option (Console·Number × Result ℕ Refusal)) (d : Desk·Held) → (stepped r d).desk ≡ d
step_desk None d = refl
step_desk (Some t) d = refl

pub step_told :
    {c : Console} {d : Desk·Held} {h : Desk} {old new : List ℕ} {n : ℕ} (r : Option (Console·Number × Result ℕ Refusal)) → Steps d (stepped r c.desk)
    → KeepsDesk d h → Put (stepped_in r) old new n → Tells (after (state_of h c.office) Command.Step) (said (state_of h c.office) Command.Step) old new (turn c n)
unfolding said after
step_told {c} {d} {h} r steps k put =
    let happens = step_happens d (stepped r c.desk) steps h k in
    let console = step_console d (stepped r c.desk) steps h k in
    record {
      keeps = record { desk = rw (step_desk r c.desk) at happens.desk; office = refl };
      put = rw (step_said r c.desk, console, happens.answer) at put;
    }

-- ---- where a line leads

pub turns : {R : State → List ℕ → Type 0} {s : State} {bs old new : List ℕ} {r : Turn} → Tells s bs old new r → R s bs → Turns R old new r
turns {s = s} {bs = bs} t l = record { state = s; bytes = bs; leads = l; tells = t }

-- from what the desk keeps to what the console keeps
of_state :
    {c : Console} {s : State} (P : State → Type 0) → KeepsState c s → ((h : Desk) → KeepsDesk c.desk h → P (state_of h c.office)) → P s
of_state {s = s} P k f = rw k.office at (f s.desk k.desk)

-- a command with a file
pub turns_file :
    (R : State → List ℕ → State → List ℕ → Type 0) {c : Console} {s : State} {line path old new : List ℕ} {r : Turn} → KeepsState c s
    → path ≡ path_of line → ((t : State) (bs : List ℕ) → R s (path_of line) t bs → LineLeads s line t bs)
    → ((h : Desk) → KeepsDesk c.desk h → Turns (R (state_of h c.office) path) old new r) → Turns (LineLeads s line) old new r
turns_file R {s = s} {path = path} {old = old} {new = new} {r = r} k e f p =
    let t = of_state (λ s. Turns (R s path) old new r) k p in
    let leads = subst (λ (x : List ℕ). R s x t.state t.bytes) e t.leads in
    record { state = t.state; bytes = t.bytes; leads = f t.state t.bytes leads; tells = t.tells }

-- blocks
pub turns_blocks :
    {c : Console} {s : State} {line old new : List ℕ} {r : Turn} → KeepsState c s → command_in line ≡ Command.Blocks
    → ((h : Desk) → KeepsDesk c.desk h → Tells (after_blocks (state_of h c.office) line) (said_blocks (state_of h c.office) line) old new r)
    → Turns (LineLeads s line) old new r
turns_blocks {line = line} {old = old} {new = new} {r = r} k is p =
    turns (of_state (λ s. Tells (after_blocks s line) (said_blocks s line) old new r) k p) (Console.blocks is)

-- any other
pub turns_other :
    {c : Console} {s : State} {command : Command} {line old new : List ℕ} {r : Turn} → KeepsState c s → command ≡ command_in line
    → ¬ (command ≡ Command.Load) → ¬ (command ≡ Command.Export) → ¬ (command ≡ Command.Blocks)
    → ((h : Desk) → KeepsDesk c.desk h → Tells (after (state_of h c.office) command) (said (state_of h c.office) command) old new r)
    → Turns (LineLeads s line) old new r
turns_other {command = command} {old = old} {new = new} {r = r} k e l x b p =
    turns (rw e at (of_state (λ s. Tells (after s command) (said s command) old new r) k p))
    (Console.other (λ i. l (e ∙ i)) (λ i. x (e ∙ i)) (λ i. b (e ∙ i)))

pub turned : {s : State} {line old new : List ℕ} {r : Turn} → Turns (LineLeads s line) old new r → Keeping (Leads s line) r.console
turned t = record { state = t.state; keeps = t.tells.keeps; is = record { bytes = t.bytes; leads = t.leads } }
