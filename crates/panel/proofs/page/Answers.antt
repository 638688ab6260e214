-- `panel::page` meets its contract.
use Rattle.pages.specs.Printed.{page_held}
use Rattle.panel.proofs.Says.{printed_own, printed_none}
use Rattle.panel.proofs.page.Goals as goal

pub returns-in-Ok : goal.returns-in-Ok
returns-in-Ok c = λ b k. rw (printed_own page_held c.args.c.now b k c.in-Ok.unit c.in-Ok.ensures) at c.put_page.ensures

pub returns-in-Err : goal.returns-in-Err
returns-in-Err c = λ b k. rw (printed_none page_held c.args.c.now b k c.in-Err.refusal c.in-Err.ensures) at c.put_refusal.ensures
