-- `pages::cells::put_aligned` meets its contract.
use Rattle.pages.proofs.Texts.{aligned_put}
use Rattle.pages.proofs.cells.put_aligned.Goals as goal

pub returns : goal.returns
returns c = aligned_put _ _ c.if-width-bytes.false c.requires c.put_run-at.ensures c.put.ensures
