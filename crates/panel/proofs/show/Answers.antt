-- `panel::show` meets its contract.
use Rattle.listing.specs.Listing.{shown}
use Rattle.panel.proofs.Says.{printed_own, printed_none}
use Rattle.panel.proofs.show.Goals as goal

pub returns-in-Ok : goal.returns-in-Ok
returns-in-Ok c = λ b k. rw (printed_own shown c.args.c.now b k c.in-Ok.unit c.in-Ok.ensures) at c.put_shown.ensures

pub returns-in-Err : goal.returns-in-Err
returns-in-Err c = λ b k. rw (printed_none shown c.args.c.now b k c.in-Err.refusal c.in-Err.ensures) at c.put_refusal.ensures
