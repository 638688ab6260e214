-- `phase1::pull_by` meets its contract: the chain's sum is the rules'. What the chain yields is written in both answers, since a
-- lemma of it would have to name the closure.
use Rattle.std.proofs.Common.{rules, ◌*◌, ◌^◌, ℕ, arith, refl, ◌∙◌}
use lib.ListN.{take}
use Rattle.std.proofs.lemmas.Iterator.{YieldsList-from_slice, YieldsList-from_zip, YieldsList-from_map}
use Rattle.std.proofs.lemmas.Iterator.Adapters.{serves_from_places}
use Rattle.std.proofs.lemmas.Iterator.Consumers.{sum_from_yields_List, fits_from_yields_list}
use Rattle.phase1.proofs.Pulls.{weight_small, weights_sum, pull_le}
use Rattle.phase1.proofs.weighed.pull_by.Goals as goal

pub sum-requires-clause-can : goal.sum-requires-clause-can
sum-requires-clause-can c =
    let a = c.args in
    let p = c.requires in (
      (tt, tt),
      serves_from_places (YieldsList-from_zip (YieldsList-from_slice (take a.resources a.row.now) (search rules)) (YieldsList-from_slice a.over.now (search rules)))
          (λ x q e. refl)
          (λ x k inside at.
          let small = weight_small a.row.now a.over.now a.resources p.resources_le_most_resources (search rules) (omega arith) p.by_index.0 p.by_index.1 k (x.0.now, x.1.now) inside at in
          search rules),
    )

pub sum-requires-clause-fits : goal.sum-requires-clause-fits
sum-requires-clause-fits c =
    let a = c.args in
    let p = c.requires in
    fits_from_yields_list c.map.result (2 ^ 64)
    (YieldsList-from_map _ (λ (q : ℕ × ℕ). q.0 * q.1)
    (YieldsList-from_zip (YieldsList-from_slice (take a.resources a.row.now) (search rules)) (YieldsList-from_slice a.over.now (search rules))) c.map.ensures.closure (λ x r q k. search rules))
    (omega (
      arith,
      weights_sum a.row.now a.over.now a.resources p.resources_le_most_resources (search rules) (omega arith),
      pull_le a.row.now a.over.now a.resources p.resources_le_most_resources p.by_index.0 p.by_index.1 a.resources (omega arith),
    ))

pub returns : goal.returns
returns c =
    let a = c.args in
    let p = c.requires in
    sum_from_yields_List c.map.result c.sum.result c.sum.ensures.ran
    (YieldsList-from_map _ (λ (q : ℕ × ℕ). q.0 * q.1)
    (YieldsList-from_zip (YieldsList-from_slice (take a.resources a.row.now) (search rules)) (YieldsList-from_slice a.over.now (search rules))) c.map.ensures.closure (λ x r q k. search rules))
    ∙ weights_sum a.row.now a.over.now a.resources p.resources_le_most_resources (search rules) (omega arith)
