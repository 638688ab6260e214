-- `listing::put_results` meets its contract: three pieces, one after another.
use Rattle.std.proofs.Common.{arith, length-append}
use Rattle.base.specs.Text.{text}
use Rattle.base.proofs.Text.{front_fits}
use Rattle.listing.specs.Listing.{results}
use Rattle.listing.proofs.Pieces.{second_of_three_fits, third_fits, put_three}
use Rattle.listing.proofs.put_results.Goals as goal

pub put_line-at-requires : goal.put_line-at-requires
unfolding results text
put_line-at-requires c = front_fits _ _ c.requires

pub put_line-at-requires-2 : goal.put_line-at-requires-2
unfolding results text
put_line-at-requires-2 c = second_of_three_fits _ _ _ c.requires c.put_line-at.ensures

pub put_steps_line-requires : goal.put_steps_line-requires
unfolding results text
put_steps_line-requires c = third_fits _ _ _ c.requires c.put_line-at.ensures c.put_line-at-2.ensures

pub returns : goal.returns
unfolding results text
returns c = put_three _ _ _ c.requires c.put_line-at.ensures c.put_line-at-2.ensures c.put_steps_line.ensures

pub overflow_add-at : goal.overflow_add-at
unfolding results text
overflow_add-at c = omega (arith, simp length-append at c.requires)

pub overflow_add-result : goal.overflow_add-result
unfolding results text
overflow_add-result c = omega (arith, simp length-append at c.requires)
