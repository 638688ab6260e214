-- `phase3::pass::Pass::first_one` meets its contract.
use Rattle.std.proofs.Common.{◌≡◌, None, Some, sym, rules}
use Rattle.rules.specs.Phases.{singles_of}
use Rattle.phase3.specs.Views.{table_of, leaders_of, choice_of, of_segment, FoundBy}
use Rattle.phase3.proofs.Chains.{first_mapped}
use Rattle.phase3.proofs.ChangeSearch.{first_single_is}
use Rattle.phase3.proofs.pass.Pass.first_one.Goals as goal

pub find_map-requires-clause-can : goal.find_map-requires-clause-can
find_map-requires-clause-can c = tt

pub find_map-requires-clause-finite : goal.find_map-requires-clause-finite
find_map-requires-clause-finite c = tt

pub returns : goal.returns
returns c =
    let p = c.args.self.now in
    first_single_is _ _ c.find_map.result
    (first_mapped _ (search rules) (search rules) (search rules) c.find_map.result (λ i x. FoundBy (of_segment i) p (Some x)) (λ i. singles_of (table_of p) (leaders_of p) (choice_of p) i ≡ None) c.find_map.ensures.runs
    (λ a r q k. search rules)
    (λ i x k. search rules)
    (λ i k. let found : FoundBy (of_segment i) p None = search rules in sym found.is))
