-- `panel::keep` meets its contract.
use Rattle.panel.proofs.Feeds.{kept}
use Rattle.panel.proofs.keep.Goals as goal

pub returns : goal.returns
returns c = let pushed = c.try_push.ensures in kept _ _ _ _ pushed.variant.0 pushed.ok pushed.err pushed.full
