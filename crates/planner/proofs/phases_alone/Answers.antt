-- `planner::phases_alone` meets its contract.
use mathlib.Core.Path.{◌∙◌}
use Rattle.planner.proofs.Plans.{shares_of, start_held, reduced_from, ended_by}
use Rattle.planner.proofs.phases_alone.Goals as goal

pub reduce-steps-requires : goal.reduce-steps-requires
reduce-steps-requires c =
    let fit = c.requires in
    record { fit = fit; shares = shares_of c.fill_up_shares.ensures; candidates = start_held _ _ fit (c.start-draft.ensures.by_index _) }

pub returns : goal.returns
returns c =
    let steps = c.reduce-steps.ensures in
    let picked = c.pick_up.ensures in
    let improved = c.improve.ensures in
    let same = picked.same_table ∙ steps.same_table in
    let reduced = reduced_from _ _ (c.start-draft.ensures.by_index _) steps.choice_after steps.value in
    record {
      strategies = ended_by _ _ reduced.0 (rw steps.same_table at picked.choice_after) (rw same at improved.choice_after);
      steps = reduced.1;
    }
