-- Request 7: where each segment's best candidate can be had at once, with leaders respected, total and ceiling are equal, after every list of calls
-- that leads to an ordinary plan.
use mathlib.Core.Path.{◌∙◌}
use Rattle.rules.specs.Lists.{district_after}
use Rattle.theorems.specs.GoodBudget.{GoodBudget}
use Rattle.theorems.proofs.GoodBudget.{at_ceiling}
use Rattle.demands.proofs.Lists.{few_after, lower_after}
use Rattle.demands.proofs.TheRules.{the_rules}

pub good_budget : GoodBudget
good_budget cs out = rw ((the_rules cs).unblocked out ∙ (the_rules cs).ordinary) (at_ceiling (district_after cs) (few_after cs) (lower_after cs))
