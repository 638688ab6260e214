-- Ratings, pages, reasons, total and ceiling of each office after any list of calls made by both: as those of a unit after any list of its calls.
use mathlib.Core.List.{List}
use mathlib.Core.Path.{sym, subst}
use Rattle.rules.specs.Calls.{show_of}
use Rattle.rules.specs.Lists.{Call, district_after, unit_after}
use Rattle.rules.specs.declared.Choice.{Choice}
use Rattle.theorems.specs.BlockPlans.{InBlocks}
use Rattle.demands.proofs.RatingsOnScale.{ratings_on_scale}
use Rattle.demands.proofs.EveryPage.{every_page}
use Rattle.demands.proofs.OneHolds.{one_holds}
use Rattle.demands.proofs.GoodBudget.{good_budget}
use Rattle.demands.proofs.NoneGreater.{none_greater}
use Rattle.demands.proofs.EveryBlockPlan.{every_block_plan}
use Rattle.demands.proofs.Lists.{choice_after_lem}
use Rattle.demands.specs.stations.EachOffice.{Promised, EachOffice}
use Rattle.demands.proofs.stations.EveryStation.{of_each}

promised : (cs : List Call) → Promised (district_after cs) (unit_after cs)
promised cs =
    record {
      scale = ratings_on_scale cs;
      page = (every_page cs).shown;
      written = (every_page cs).written;
      reasons = λ i j e. let a = one_holds cs i j e in record { reason = a.reason; answer = a.answer; explained = a.explained };
      budget = λ out. good_budget cs (rw (choice_after_lem cs) at out);
      optimal = none_greater cs;
      blocks = subst (λ (x : Choice). InBlocks x (district_after cs) (show_of (unit_after cs))) (sym (choice_after_lem cs)) (every_block_plan cs);
    }

pub each_office : EachOffice
each_office = of_each Promised promised
