-- `planner::phases` meets its contract.
use Rattle.planner.proofs.Plans.{shares_of, start_held, reduced_from, from_reduced}
use Rattle.planner.proofs.phases.Goals as goal

pub reduce-steps-requires : goal.reduce-steps-requires
reduce-steps-requires c =
    let fit = c.requires.fit in
    record { fit = fit; shares = shares_of c.fill_up_shares.ensures; candidates = start_held _ _ fit (c.start-draft.ensures.by_index _) }

pub finish-requires : goal.finish-requires
finish-requires c = rw c.reduce-steps.ensures.same_table c.requires.bound

pub returns : goal.returns
returns c =
    let steps = c.reduce-steps.ensures in
    let reduced = reduced_from _ _ (c.start-draft.ensures.by_index _) steps.choice_after steps.value in
    from_reduced _ _ reduced.0 reduced.1 (rw steps.same_table at c.finish.ensures)
