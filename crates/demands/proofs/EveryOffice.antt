-- Demand 3, of all calls of an office: unit and meter each go by their own calls, so that what holds after any list of a unit's calls holds here.
use mathlib.Core.List.{List, [], ◌∷◌}
use mathlib.Core.Path.{◌≡◌, refl}
use Rattle.rules.specs.Lists.{unit_from, unit_after}
use Rattle.rules.specs.Meter.{heard_from, heard_after}
use Rattle.rules.specs.Offices.{Held, fresh_held, OfficeCall, Plan, Send, AskRoughness, office_outcome, held_from, held_after, unit_calls, sent_in}
use Rattle.rules.specs.Demands.{EveryOffice}
use Rattle.demands.proofs.OneClaim.{one_claim}
use Rattle.demands.proofs.TheRules.{the_rules}

-- from what is held in any state
parts_from :
    (o : Held) (cs : List OfficeCall)
    → held_from o cs ≡ record { unit = unit_from o.unit (unit_calls cs); heard = heard_from o.heard (sent_in cs) }
unfolding held_from unit_from heard_from unit_calls sent_in office_outcome
parts_from o [] = refl
parts_from o (Plan c ∷ cs) = parts_from (office_outcome o (Plan c)).held cs
parts_from o (Send s ∷ cs) = parts_from (office_outcome o (Send s)).held cs
parts_from o (AskRoughness ∷ cs) = parts_from o cs

pub every_office : EveryOffice
unfolding held_after unit_after heard_after fresh_held
every_office cs =
    let claim = one_claim (unit_calls cs) in
    record {
      unit = rw (parts_from fresh_held cs);
      heard = rw (parts_from fresh_held cs);
      rules = the_rules (unit_calls cs);
      sound = rw (parts_from fresh_held cs) claim.sound;
      shown = rw (parts_from fresh_held cs) claim.shown;
    }
