-- `phase1::top_candidate` meets its contract: every candidate passes.
use Rattle.std.proofs.Common.{rules, ◌∙◌, true}
use Rattle.phase1.proofs.Candidates.{top_is}
use Rattle.phase1.proofs.top_candidate.Goals as goal

pub returns : goal.returns
returns c = λ u l. c.best_candidate.ensures (λ _. true) (λ j lj hj r e. search rules) ∙ top_is _ _ u l _
