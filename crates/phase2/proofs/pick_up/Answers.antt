-- `phase2::pick_up` meets its contract.
use mathlib.Core.Path.{refl, ◌∙◌}
use Rattle.std.specs.Prelude.{None, Some}
use native.Mathlib.Omega.{arith}
use Rattle.phase2.proofs.Offers.{FoundIn, pick_inside, picking_start, picking_end, picking_next}
use Rattle.phase2.proofs.pick_up.Goals as goal

pub loop-offer-init : goal.loop-offer-init
loop-offer-init c = (refl, picking_start _ _)

pub give-requires : goal.give-requires
give-requires c = pick_inside _ _ _ _ _ _ c.in-Some.ensures

pub loop-offer-smaller : goal.loop-offer-smaller
loop-offer-smaller c =
    let l = c.loop-offer in
    let found : FoundIn l.planning.t l.planning.draft.choice (Some c.in-Some.offer) = c.in-Some.ensures in
    omega (arith, (picking_next l.invariant.1 l.planning.running.chosen.places (rw l.invariant.0 at found) c.give.ensures.choice_after).0)

pub loop-offer-preserved : goal.loop-offer-preserved
loop-offer-preserved c =
    let l = c.loop-offer in
    let found : FoundIn l.planning.t l.planning.draft.choice (Some c.in-Some.offer) = c.in-Some.ensures in
    (c.give.ensures.same_table ∙ l.invariant.0, (picking_next l.invariant.1 l.planning.running.chosen.places (rw l.invariant.0 at found) c.give.ensures.choice_after).1)

pub returns-clause-choice_after : goal.returns-clause-choice_after
returns-clause-choice_after c =
    let l = c.loop-offer in
    let found : FoundIn l.planning.t l.planning.draft.choice None = c.in_default.ensures in
    (picking_end l.invariant.1 (rw l.invariant.0 at found)).0

pub returns-clause-value : goal.returns-clause-value
returns-clause-value c =
    let l = c.loop-offer in
    let found : FoundIn l.planning.t l.planning.draft.choice None = c.in_default.ensures in
    (picking_end l.invariant.1 (rw l.invariant.0 at found)).1
