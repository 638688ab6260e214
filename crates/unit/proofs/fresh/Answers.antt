-- `unit::fresh` meets its contract.
use Rattle.rules.specs.Calls.{fresh_unit, unit_of}
use Rattle.demands.proofs.EveryAnswer.{every_answer, every_points}
use Rattle.demands.proofs.EveryBlockPlan.{every_block_plan}
use Rattle.demands.proofs.EveryFile.{every_file}
use Rattle.demands.proofs.EveryPage.{every_page}
use Rattle.demands.proofs.EveryReason.{every_reason}
use Rattle.demands.proofs.GoodBudget.{good_budget}
use Rattle.demands.proofs.NoneGreater.{none_greater}
use Rattle.demands.proofs.OneClaim.{one_claim}
use Rattle.demands.proofs.OneHolds.{one_holds}
use Rattle.demands.proofs.RatingsOnScale.{ratings_on_scale}
use Rattle.demands.proofs.TheRules.{the_rules}
use Rattle.unit.proofs.fresh.Goals as goal

pub returns : goal.returns
unfolding fresh_unit unit_of
returns c = record { start = cc; settled = every_answer; points = every_points; exact = the_rules; files = every_file; claim = one_claim; scale = ratings_on_scale; readable = every_page; reasons = every_reason; explained = one_holds; equal = good_budget; optimal = none_greater; blocks = every_block_plan }
