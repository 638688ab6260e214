-- `reasons::Question::missed_minimum` meets its contract.
use Rattle.std.proofs.Common.{rules}
use Rattle.base.specs.Search.{first}
use Rattle.rules.specs.District.{years_of, distresses_of}
use Rattle.rules.specs.Reasons.{given}
use Rattle.rules.specs.declared.Reason.TheVariants.{MinimumMissed}
use Rattle.rating.proofs.Chains.{from_1}
use Rattle.reasons.proofs.Searches.{first_from_find_map}
use Rattle.reasons.proofs.Question.missed_minimum.Goals as goal

pub returns : goal.returns
returns c =
    let t = c.args.self.now.treatment in
    let d = t.ranged.district.now in
    first_from_find_map _ _ _
    (λ k. first (years_of d) (λ y. given d c.args.self.now.programme.now t.segment t.strategy (MinimumMissed k y)))
    (λ x r q k. search rules)
    (distresses_of d) c.find_map.result c.find_map.ensures.ran c.find_map.ensures.runs (from_1 _ c.distresses.ensures)
