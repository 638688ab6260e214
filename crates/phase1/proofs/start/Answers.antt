-- `phase1::start` meets its contract.
use mathlib.Core.List.{[]}
use mathlib.Core.Path.{◌∙◌}
use Rattle.phase1.proofs.Candidates.{bests_chosen}
use Rattle.phase1.proofs.Pruning.{pruned_chosen, start_is}
use Rattle.phase1.proofs.start.Goals as goal

pub draft_of-requires : goal.draft_of-requires
draft_of-requires c = (c.requires, pruned_chosen _ (bests_chosen _ [] [] (c.top_choice-choice.ensures [] [])) c.prune.ensures.choice_after)

pub returns : goal.returns
returns c = record { running = c.draft_of.ensures.running; by_index = λ l. c.draft_of.ensures.same_choice ∙ start_is _ _ (c.top_choice-choice.ensures _ l) c.prune.ensures.choice_after }
