-- `reasons::Question::missed_year` meets its contract.
use Rattle.std.proofs.Common.{rules, tests}
use Rattle.rules.specs.District.{years_of}
use Rattle.rules.specs.Reasons.{holds, given}
use Rattle.rules.specs.declared.Reason.TheVariants.{MinimumMissed}
use Rattle.rating.proofs.Chains.{from_1}
use Rattle.reasons.proofs.Searches.{first_from_find_map, given_by}
use Rattle.reasons.proofs.Question.missed_year.Goals as goal

pub find_map-requires-clause-can : goal.find_map-requires-clause-can
find_map-requires-clause-can c = tt

pub find_map-requires-clause-finite : goal.find_map-requires-clause-finite
find_map-requires-clause-finite c = tt

pub returns : goal.returns
unfolding holds
returns c =
    let t = c.args.self.now.treatment in
    let d = t.ranged.district.now in
    first_from_find_map _ _ _
    (λ r. given d c.args.self.now.programme.now t.segment t.strategy (MinimumMissed c.args.k r))
    (λ x r q k. search (rules, tests, given_by))
    (years_of d) c.find_map.result c.find_map.ensures.ran c.find_map.ensures.runs (from_1 _ c.years.ensures)
