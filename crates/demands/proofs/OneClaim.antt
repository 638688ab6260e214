-- Demand 3: after any list of calls, what is promised of the programme of every district holds of the programme held.
use Rattle.rules.specs.Lists.{district_after}
use Rattle.rules.specs.Demands.{OneClaim}
use Rattle.theorems.proofs.Promises as promises
use Rattle.demands.proofs.Lists.{few_after, lower_after, begun_after, begins_after, programme_after}

pub one_claim : OneClaim
one_claim cs =
    record {
      sound = rw (programme_after cs) (promises.sound (district_after cs) (few_after cs) (begun_after cs) (begins_after cs) (lower_after cs));
      shown = rw (programme_after cs) (promises.shown (district_after cs) (few_after cs) (begun_after cs) (begins_after cs));
    }
