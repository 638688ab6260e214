-- `rating::Ranged::used` meets its contract.
use mathlib.Core.Path.{◌∙◌}
use native.Mathlib.Omega.{arith}
use Rattle.std.proofs.Common.{rules}
use Rattle.std.proofs.lemmas.Iterator.Consumers.{sum_by_from_yields_List, fits_by_from_yields_list}
use Rattle.std.specs.List.{range_with_len}
use Rattle.rules.specs.District.{segments_of}
use Rattle.rules.specs.Phases.{chosen_usage, used}
use Rattle.rules.specs.Table.{table_of}
use Rattle.rating.proofs.Chains.{mapped_from_1, sum_listed}
use Rattle.rating.proofs.Uses.{sum_le}
use Rattle.rating.proofs.Ranged.used.Goals as goal

pub sum-requires-clause-fits : goal.sum-requires-clause-fits
sum-requires-clause-fits c =
    let d = c.args.self.now.district.now in
    let ok = c.args.self.now.in_range in
    let uses = chosen_usage (table_of d) c.args.c.now c.args.r in
    let few = ok.segments in
    fits_by_from_yields_list uses (range_with_len 1 (segments_of d)) c.map.result _
    (mapped_from_1 _ c.segments.ensures uses c.map.ensures.source c.map.ensures.closure (λ x r q k. search rules))
    (omega (arith, sum_listed (segments_of d) uses, sum_le d ok c.args.c.now c.args.r (segments_of d)))

pub returns : goal.returns
unfolding used table_of
returns c =
    let d = c.args.self.now.district.now in
    let uses = chosen_usage (table_of d) c.args.c.now c.args.r in
    sum_by_from_yields_List uses (range_with_len 1 (segments_of d)) c.map.result _ c.sum.ensures.ran
    (mapped_from_1 _ c.segments.ensures uses c.map.ensures.source c.map.ensures.closure (λ x r q k. search rules))
    ∙ sum_listed (segments_of d) uses
