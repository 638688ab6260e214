-- `phase3::trial::Trial::short_of` meets its contract.
use Rattle.std.proofs.Common.{◌≡◌, true, false, rules, tests}
use Rattle.phase3.specs.Views.{room_at}
use Rattle.phase3.proofs.Chains.{first_found}
use Rattle.phase3.proofs.Remembered.{short_is}
use Rattle.phase3.proofs.trial.Trial.short_of.Goals as goal

pub find-requires-clause-can : goal.find-requires-clause-can
find-requires-clause-can c = tt

pub find-requires-clause-finite : goal.find-requires-clause-finite
find-requires-clause-finite c = tt

pub returns : goal.returns
returns c =
    let room = room_at c.args.self.now in
    short_is _ _ _
    (first_found _ (search rules) (search rules) (search rules) c.find.result (λ r. room r ≡ false) (λ r. room r ≡ true) c.find.ensures.runs
    (λ x r q k. search (rules, tests))
    (λ r k. search (rules, tests))
    (λ r k. search (rules, tests)))
