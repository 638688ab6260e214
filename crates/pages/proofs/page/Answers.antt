-- `pages::page` meets its contract: where the buffer has room, the lines are the page.
use Rattle.pages.proofs.Given.{page_fits}
use Rattle.pages.proofs.page.Goals as goal

pub returns : goal.returns
returns c = page_fits _ _ _ c.in-Some.ensures.1 c.if-buffer-length.false (rw c.in-Some.ensures.0 at c.put_lines.ensures)
