-- A console whose desk events lead to stays one whatever line is answered, and what demand 3 claims holds of each office.
use Prim.Native.Nat.{◌≤◌}
use Rattle.std.specs.Prelude.{Option, None, Some}
use mathlib.Core.List.{List, [], ◌∷◌, ◌++◌}
use mathlib.Core.Path.{◌≡◌, refl, sym, ap, ◌∙◌}
use Prim.Native.Nat.{ℕ}
use Rattle.rules.specs.Calls.{show_of, unit_with}
use Rattle.rules.specs.District.{most_resources, resources_of}
use Rattle.rules.specs.Demands.{Sound}
use Rattle.rules.specs.Desks as Desks
use Rattle.rules.specs.Desks.{Desk, fresh_desk, Event, desk_by, desk_from, desk_after}
use Rattle.rules.specs.Lists as Lists
use Rattle.rules.specs.Lists.{district_after}
use Rattle.rules.specs.Offices as Offices
use Rattle.rules.specs.Offices.{Plan}
use Rattle.rules.specs.declared.Unit.{Unit}
use Rattle.grammar.proofs.InRanges.{in_ranges}
use Rattle.demands.proofs.Lists.{after_in}
use Rattle.demands.proofs.desks.EveryDesk.{every_desk}
use Rattle.station.specs.Kept.{office_in}
use Rattle.command.specs.Reading.{command_in}
use Rattle.command.specs.declared.Command.{Command}
use Rattle.command.specs.declared.Command.TheVariants.{Nothing, Unknown, Load, Export, Alter, Show, Points, Page, Why, Send, Roughness, Office, Queue, Step, Blocks}
use Rattle.panel.specs.Console.{State, start, asking, queueing, happened, after, loading, Loads, read, unopened, unread, Exports, written, unwritten, LineLeads, load, export, blocks, other, choosing, after_row, row_for, KeepsState}
use Rattle.panel.specs.Lines.{ByEvents, Keeping, Leads}
use Rattle.panel.specs.declared.Console.{Console}
use Rattle.rules.specs.declared.Which.{Which}

-- the desk follows from events
record Reached (s : State) : Type 0 where
  events : List Event
  same : s.desk ≡ desk_after events

-- one event more
desk_then : (d : Desk) (es : List Event) (e : Event) → desk_from d (es ++ (e ∷ [])) ≡ desk_by (desk_from d es) e
unfolding desk_from
desk_then d [] e = refl
desk_then d (f ∷ es) e = desk_then (desk_by d f) es e

reached_event : {s : State} (e : Event) → Reached s → Reached (happened s e)
unfolding desk_after
reached_event {s} e r =
    record {
      events = r.events ++ (e ∷ []);
      same = ap (λ (d : Desk). desk_by d e) r.same ∙ sym (desk_then fresh_desk r.events e);
    }

reached_after : {s : State} (command : Command) → Reached s → Reached (after s command)
unfolding after
reached_after Nothing r = r
reached_after Unknown r = r
reached_after Load r = r
reached_after Export r = r
reached_after {s} (Alter e) r = reached_event (asking s (Plan (Lists.Alter e))) r
reached_after Show r = r
reached_after (Points c d e x) r = r
reached_after Page r = r
reached_after (Why i j) r = r
reached_after {s} (Send x) r = reached_event (asking s (Offices.Send x)) r
reached_after Roughness r = r
reached_after (Office n) r = record { events = r.events; same = r.same }
reached_after {s} (Queue n e) r = reached_event (queueing s n e) r
reached_after Step r = reached_event Desks.Step r
reached_after Blocks r = r

reached_row : {s : State} (row : Option (List ℕ)) → Reached s → Reached (after_row s row)
unfolding after_row
reached_row None r = r
reached_row {s} (Some row) r = reached_event (choosing s row) r

reached_load : {s t : State} {path bs : List ℕ} → Loads s path t bs → Reached s → Reached t
reached_load {s} (read file) r = reached_event (loading s file) r
reached_load unopened r = r
reached_load unread r = r

reached_export : {s t : State} {path bs : List ℕ} → Exports s path t bs → Reached s → Reached t
reached_export (written buffer e) r = r
reached_export (unwritten buffer n e a) r = r

reached_line : {s : State} {line : List ℕ} {t : State} {bs : List ℕ} → LineLeads s line t bs → Reached s → Reached t
reached_line (load e l) r = reached_load l r
reached_line (export e x) r = reached_export x r
reached_line {s} {line} (blocks e) r = reached_row (row_for s line) r
reached_line {line = line} (other l x b) r = reached_after (command_in line) r

-- ---- a console

pub by_events_start : {c : Console} → KeepsState c start → ByEvents c
unfolding desk_after desk_from
by_events_start k = record { events = []; keeps = k.desk }

-- what the events lead to, with the number that the console has
abbrev pub known : {c : Console} → ByEvents c → State
known {c} r = record { desk = desk_after r.events; office = c.office }

pub known_kept : {c : Console} (r : ByEvents c) → KeepsState c (known r)
known_kept r = record { desk = r.keeps; office = refl }

pub by_events_line : {c p : Console} {line : List ℕ} → ((s : State) → KeepsState c s → Keeping (Leads s line) p) → ByEvents c → ByEvents p
by_events_line led r =
    let k = led (known r) (known_kept r) in
    let l = reached_line k.is.leads record { events = r.events; same = refl } in
    record { events = l.events; keeps = rw l.same at k.keeps.desk }

-- demand 3
pub sound_at :
    {c : Console} → ByEvents c → (w : Which)
    → Sound (office_in w c.desk.station).unit.district (show_of (office_in w c.desk.station).unit)
unfolding unit_with
sound_at r w =
    let e = every_desk r.events in
    rw (r.keeps.station w).unit (rw (sym (ap (λ (u : Unit). u.district) (e.planned w))) at (e.sound w))

-- the tables have so many resources at most
pub few_resources : {c : Console} → ByEvents c → (w : Which) → resources_of (office_in w c.desk.station).unit.district ≤ most_resources
unfolding unit_with
few_resources r w =
    let e = every_desk r.events in
    let calls = (e.claim w).calls in
    let led = ap (λ (u : Unit). u.district) ((r.keeps.station w).unit ∙ e.planned w) ∙ sym (e.claim w).district in
    rw led (in_ranges (district_after calls) (after_in calls)).resources
