-- What a call that is read from the bytes stands for.
use Rattle.std.specs.Prelude.{ℕ, ◌+◌, ◌≤◌, ◌≡◌, List, length, drop}
use Rattle.rules.specs.Desks.{Event}
use Rattle.script.specs.Script.{body_in, event_of, named_by, Entry, entry_in}
use Rattle.script.specs.declared.Call.{Call}

abbrev pub event_by : Call → Event
event_by c = event_of c.kind c.office c.command c.first c.body.now

-- with the office that is shown after it
abbrev pub entry_by : Call → Entry
entry_by c = record { office = named_by c.kind c.office; event = event_by c }

-- it stands whole at the front of the bytes, and `after` is what follows it
pub record IsFirst (bs : List ℕ) (c : Call) (after : List ℕ) : Type 0 where
  pub whole : 17 + body_in bs ≤ length bs
  pub entry : entry_by c ≡ entry_in bs
  pub rest : after ≡ drop (17 + body_in bs) bs
