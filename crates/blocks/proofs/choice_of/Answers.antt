-- `blocks::choice_of` meets its contract.
use Rattle.std.proofs.Common.{rules, ◌≡◌, get_or}
use Rattle.base.proofs.Made.{made_at}
use Rattle.rules.specs.Blocks.{choice_places, choice_of}
use Rattle.blocks.proofs.Rows.{row_kept}
use Rattle.blocks.proofs.choice_of.Goals as goal

pub returns : goal.returns
unfolding choice_of
returns c =
    let row = c.args.row.now in
    let kept = row_kept choice_places row c.from_fn.result c.from_fn.ensures.items.long (λ k h. made_at (λ x y. y ≡ get_or row x 0) (λ x y f under called. (search rules, search rules)) c.from_fn.ensures.items k 0 h) in
    rw kept
