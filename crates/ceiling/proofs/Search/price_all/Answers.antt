-- `ceiling::Search::price_all` meets its contract.
use mathlib.Core.Path.{refl, ◌∙◌}
use Rattle.ceiling.proofs.Rounds.{all_none, all_next, room_at, raisable_room}
use Rattle.ceiling.proofs.Search.price_all.Goals as goal

pub loop-r-init : goal.loop-r-init
loop-r-init c = (refl, all_none _ _ _)

pub price_one-requires-clause-room : goal.price_one-requires-clause-room
price_one-requires-clause-room c = raisable_room (room_at _ c.requires c.loop-r.invariant.1)

pub loop-r-preserved : goal.loop-r-preserved
loop-r-preserved c =
    let l = c.loop-r in
    let new = c.price_one.ensures in
    (new.same_table ∙ l.invariant.0, all_next _ _ _ l.r l.invariant.1 (rw l.invariant.0 at new.prices_after))
