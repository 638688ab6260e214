-- `phase2::offer_of` meets its contract: those pass that fit.
use Rattle.std.proofs.Common.{rules, ◌≡◌, ◌∙◌, sym}
use Rattle.rules.specs.Phases.{give, within, offer}
use Rattle.tables.specs.Views.{table_in}
use Rattle.tables.proofs.Arrays.{cell_of}
use Rattle.phase2.proofs.Offers.{offer_is, offer_le, offer_taken, offer_none, offer_some}
use Rattle.phase2.proofs.offer_of.Goals as goal
use Rattle.phase2.proofs.offer_of.Goals.{After-best_candidate-j}

-- what the search found
found : (c : After-best_candidate-j) → c.best_candidate-j.result ≡ offer (table_in c.args.planning.now.t) c.args.planning.now.draft.choice c.args.i
found c =
    let p = c.args.planning.now in
    c.best_candidate-j.ensures (λ j. within (table_in p.t) (give p.draft.choice c.args.i j)) (λ j low high r e. search rules) ∙ offer_is _ _ _ _ _ c.args.i

pub best_candidate-j-requires-clause-callable : goal.best_candidate-j-requires-clause-callable
best_candidate-j-requires-clause-callable c = λ j low high. search rules

pub returns-then-not-is_free : goal.returns-then-not-is_free
returns-then-not-is_free c = offer_taken _ _ _ _ _ _ c.args.i (sym c.is_free.ensures ∙ c.if-not-is_free.true)

pub returns-then-j-eq0 : goal.returns-then-j-eq0
returns-then-j-eq0 c = offer_none _ _ _ _ _ _ c.args.i (sym (found (goal.at.returns-then-j-eq0 c).After-best_candidate-j) ∙ c.if-j-eq0.true)

pub at-requires : goal.at-requires
at-requires c =
    let is = found (goal.at.at-requires c).After-best_candidate-j in
    cell_of c.args.planning.now.t.bounded c.args.i _ c.requires.0 c.requires.1 (rw is (offer_le _ _ _ _ _ c.args.i))

pub returns : goal.returns
returns c =
    offer_some _ _ _ _ _ _ c.args.i _ (sym c.is_free.ensures ∙ c.if-not-is_free.false) (found (goal.at.returns c).After-best_candidate-j) c.if-j-eq0.false c.at.ensures.value
