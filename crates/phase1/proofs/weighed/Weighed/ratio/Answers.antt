-- `phase1::Weighed::ratio` meets its contract: by the pull, as the rules do.
use Rattle.rules.specs.Phases.{chosen_benefit}
use Rattle.phase1.proofs.Weakest.{ratio_none, ratio_some}
use Rattle.phase1.proofs.weighed.Weighed.ratio.Goals as goal

pub returns-then-pulled-eq0 : goal.returns-then-pulled-eq0
returns-then-pulled-eq0 c = ratio_none _ _ c.args.i c.pull-pulled.ensures c.if-pulled-eq0.true

pub returns : goal.returns
unfolding chosen_benefit
returns c = ratio_some _ _ c.args.i c.pull-pulled.ensures c.ratio_of.ensures c.chosen-benefit.ensures.value c.if-pulled-eq0.false
