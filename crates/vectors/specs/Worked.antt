-- What vectors prints for a list of calls.
use Rattle.std.specs.Prelude.{ℕ, List}
use Rattle.std.specs.Prelude.{Option, None, Some}
use Rattle.rules.specs.Answers.{no_such_office, Answer}
use Rattle.rules.specs.Offices.{Held}
use Rattle.rules.specs.Stations.{Both, own, office_of}
use Rattle.rules.specs.Desks.{desk_after}
use Rattle.listing.specs.Listing.{refusal, planned}
use Rattle.script.specs.Script.{entries_of, events_of, last_answer, last_office}
use Rattle.rules.specs.declared.Which.{Which}

-- the answer to an office, with its programme; to none, the refusal for that
unfoldable pub worked_for : Option Which → Both Held → Answer → List ℕ
worked_for None b answer = refusal no_such_office
worked_for (Some w) b answer = planned answer (own w b).unit

-- the bytes stand for the events
unfoldable pub worked : List ℕ → List ℕ
worked script = let es = entries_of script in worked_for (office_of (last_office es)) (desk_after (events_of es)).held (last_answer es)
