-- `phase3::pass::Pass::first_of_segment` meets its contract.
use Rattle.std.proofs.Common.{◌≡◌, refl, true, false, rules, tests}
use Rattle.std.specs.Prelude.{option_map}
use Rattle.phase3.specs.Improve.{counts_one}
use Rattle.phase3.specs.declared.change.Change.TheVariants.{One}
use Rattle.phase3.specs.Views.{table_of, leaders_of, choice_of, of_segment, FoundBy}
use Rattle.phase3.proofs.Chains.{first_found}
use Rattle.phase3.proofs.ChangeSearch.{first_is}
use Rattle.phase3.proofs.pass.Pass.first_of_segment.Goals as goal

pub find-requires-clause-can : goal.find-requires-clause-can
find-requires-clause-can c = tt

pub find-requires-clause-finite : goal.find-requires-clause-finite
find-requires-clause-finite c = tt

pub returns : goal.returns
returns c =
    let p = c.args.self.now in
    let first = first_found _ (search rules) (search rules) (search rules) c.find.result
    (λ a. counts_one (table_of p) (leaders_of p) (choice_of p) c.args.i a ≡ true)
    (λ a. counts_one (table_of p) (leaders_of p) (choice_of p) c.args.i a ≡ false) c.find.ensures.runs
    (λ x r q k. search (rules, tests))
    (λ a k. search (rules, tests))
    (λ a k. search (rules, tests)) in
    let found : FoundBy (of_segment c.args.i) p (option_map _ c.find.result) = first_is (table_of p) (leaders_of p) c.args.i c.requires.0 c.requires.1 refl c.find.result first in
    let same : c.map.result ≡ option_map (λ a. One (record { 0 = c.args.i; 1 = a })) c.find.result = search rules in
    rw same found
