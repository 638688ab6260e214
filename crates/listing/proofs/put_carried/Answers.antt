-- `listing::put_carried` meets its contract: two pieces, one after another.
use Rattle.std.proofs.Common.{arith, length-take, length-drop}
use Rattle.base.specs.Text.{text}
use Rattle.base.proofs.Text.{front_fits}
use Rattle.rules.specs.Answers.{answer_in}
use Rattle.listing.specs.Listing.{carried}
use Rattle.listing.proofs.Lengths.{console_fits, carried_fits}
use Rattle.listing.proofs.Pieces.{put_two}
use Rattle.listing.proofs.put_carried.Goals as goal

pub put_ended-at-requires : goal.put_ended-at-requires
unfolding carried text
put_ended-at-requires c = front_fits _ _ (carried_fits c.args.console (answer_in c.args.answer) _ c.requires)

pub put_done-requires : goal.put_done-requires
unfolding text
put_done-requires c = simp (length-take, length-drop) (omega (arith, console_fits c.args.console _ c.requires))

pub returns : goal.returns
unfolding carried text
returns c = put_two _ _ (carried_fits c.args.console (answer_in c.args.answer) _ c.requires) c.put_ended-at.ensures c.put_done.ensures
