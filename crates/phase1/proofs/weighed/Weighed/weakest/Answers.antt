-- `phase1::Weighed::weakest` meets its contract: the least of the ratios has the rules' segment.
use Rattle.std.proofs.Common.{rules, ◌≡◌, ◌+◌, arith, ap, ◌∙◌}
use Rattle.std.specs.List.{reduce}
use Rattle.std.proofs.lemmas.Grind.{common_steps}
use Rattle.std.proofs.lemmas.Iterator.{YieldsList-from_range}
use Rattle.std.proofs.lemmas.Iterator.Consumers.{YieldsList-from_filter_map, reduce_from_yields_List}
use Rattle.tables.specs.Views.{table_in}
use Rattle.rules.specs.Phases.{weakest}
use Rattle.phase1.specs.Reduce.{ratio_at, segment_in}
use Rattle.phase1.proofs.Weakest.{lesser, ratios, weakest_is, weakest_same}
use Rattle.phase1.proofs.weighed.Weighed.weakest.Goals as goal

pub returns : goal.returns
returns c =
    let p = c.args.self.now.planning.now in
    let t = table_in p.t in
    let n = p.t.size.segments in
    let least : c.min.result ≡ reduce lesser (ratios t p.draft.choice n) =
    reduce_from_yields_List lesser c.filter_map.result c.min.result c.min.ensures.ran
    (YieldsList-from_filter_map _ (λ k. ratio_at t p.draft.choice (k + 1)) (YieldsList-from_range 0 n n c.filter_map.ensures.source (omega arith)) c.filter_map.ensures.closure
    (λ x r q k. search rules)) in
    let e = weakest_is t p.draft.choice least in
    let is : c.map.result ≡ segment_in (weakest t p.draft.choice) = grind (arith, common_steps) in
    record {
      segment = is;
      any_uses = λ u shares running. is ∙ ap segment_in (weakest_same c.args.self.now.shares_are p.running shares running);
    }
