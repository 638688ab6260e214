-- `phase1::top_choice` meets its contract.
use Rattle.std.proofs.Common.{rules, arith, ◌≡◌, ◌+◌, ◌-◌}
use Rattle.rules.specs.Phases.{top_candidate}
use Rattle.tables.specs.Arrays.{tables}
use Rattle.base.proofs.Made.{made_at}
use Rattle.phase1.proofs.Candidates.{bests_are}
use Rattle.phase1.proofs.top_choice.Goals as goal

pub returns : goal.returns
returns c = λ u l.
    let t = tables c.args.z c.args.benefits.entries.now u l in
    bests_are t c.from_fn.result c.from_fn.ensures.items.long
    (λ k low high. let at : k - 1 + 1 ≡ k = omega arith in rw at at (made_at (λ x y. y ≡ top_candidate t (x + 1)) (λ x y f under called. (search rules, search rules)) c.from_fn.ensures.items (k - 1) 0 (omega arith)))
