-- `phase2::best_offer` meets its contract: the segments' offers, reduced to the better one.
use Rattle.std.proofs.Common.{rules, tests, ◌≡◌, ◌+◌, ◌∙◌, arith}
use Rattle.std.specs.List.{reduce}
use Rattle.std.proofs.lemmas.Iterator.{YieldsList-from_range}
use Rattle.std.proofs.lemmas.Iterator.Consumers.{YieldsList-from_filter_map}
use Rattle.tables.specs.Views.{table_in, leaders_in}
use Rattle.phase1.proofs.Reduced.{reduce_by_closure}
use Rattle.phase2.specs.Offers.{offer_at}
use Rattle.phase2.proofs.Offers.{better, offers, best_is}
use Rattle.phase2.proofs.best_offer.Goals as goal

pub returns : goal.returns
returns c =
    let p = c.args.planning.now in
    let t = p.t in
    let n = t.size.segments in
    let found : c.reduce.result ≡ reduce better (offers t.size t.benefits.entries.now t.uses.entries.now t.limits.entries.now p.draft.choice (leaders_in t) n) =
    reduce_by_closure _ better (λ x y r q k. search (rules, tests)) c.filter_map.result c.reduce.result c.reduce.ensures.ran
    (YieldsList-from_filter_map _ (λ k. offer_at (table_in t) (leaders_in t) p.draft.choice (k + 1)) (YieldsList-from_range 0 n n c.filter_map.ensures.source (omega arith)) c.filter_map.ensures.closure
    (λ x r q k. search rules)) in
    found ∙ best_is t.size t.benefits.entries.now t.uses.entries.now t.limits.entries.now p.draft.choice (leaders_in t)
