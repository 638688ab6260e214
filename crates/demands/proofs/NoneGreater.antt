-- Request 7, after any list of calls: where total and ceiling are equal, no programme of permitted strategies within the limits has a greater total.
use Rattle.rules.specs.Calls.{show_of}
use Rattle.rules.specs.Lists.{district_after, unit_after}
use Rattle.theorems.specs.GoodBudget.{NoneGreater}
use Rattle.theorems.proofs.GoodBudget.{optimal}
use Rattle.demands.proofs.OneClaim.{one_claim}

pub none_greater : NoneGreater
none_greater cs = let claim = one_claim cs in optimal (district_after cs) (show_of (unit_after cs)) claim.sound claim.shown
