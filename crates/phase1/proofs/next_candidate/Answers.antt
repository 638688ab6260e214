-- `phase1::next_candidate` meets its contract: those pass that come after.
use Rattle.std.proofs.Common.{rules, ◌∙◌}
use Rattle.tables.specs.Arrays.{benefit_at}
use Rattle.phase1.proofs.Candidates.{follows}
use Rattle.phase1.proofs.Candidates.{next_is}
use Rattle.phase1.proofs.next_candidate.Goals as goal

pub returns : goal.returns
returns c =
    let b = c.args.benefits.entries.now in
    λ u l.
    c.best_candidate.ensures (λ j. follows (benefit_at b c.args.i j) (benefit_at b c.args.i c.args.a) c.args.a j) (λ j lj hj r e. search rules)
    ∙ next_is _ _ u l _ _
