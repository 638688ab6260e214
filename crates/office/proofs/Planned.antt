-- What a call of the unit comes to, beside the window, is the office's outcome of that call, whatever it writes.
use Rattle.std.proofs.Common.{◌≡◌, ap, []}
use Rattle.rules.specs.Calls.{Reply}
use Rattle.rules.specs.Lists.{Call, replied, outcome_of}
use Rattle.rules.specs.Offices.{office_outcome}
use Rattle.office.specs.Kept.{OfficeReply, Plans}
use Rattle.office.specs.declared.Office.{Office}

pub planned :
    (o : Office) (c : Call) (r : OfficeReply) → r.answer ≡ (outcome_of o.unit c).answer → r.office.unit ≡ (outcome_of o.unit c).unit
    → r.office.window ≡ o.window → Plans o c r
unfolding office_outcome
planned o c r a u w =
    record {
      answer = a;
      unit = u;
      window = w;
      makes = λ h k. record { answer = rw (← k.unit) a; office = record { unit = rw (← k.unit) u; window = rw w k.window } };
    }

-- one that writes nothing, by the unit's reply to it
pub planned_reply :
    (o : Office) (c : Call) (r : OfficeReply) (called : Reply) → outcome_of o.unit c ≡ replied called []
    → record { answer = r.answer; unit = r.office.unit } ≡ called → r.office.window ≡ o.window → Plans o c r
planned_reply o c r called is e =
    planned o c r (rw is (ap (λ (y : Reply). y.answer) e)) (rw is (ap (λ (y : Reply). y.unit) e))
