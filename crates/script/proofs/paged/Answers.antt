-- `script::paged` meets its contract.
use Rattle.pages.specs.Printed.{longest_page}
use Rattle.rules.specs.Lists.{PageTo}
use Rattle.script.proofs.Calls.{lent_zeros}
use Rattle.script.proofs.paged.Goals as goal

pub returns : goal.returns
returns c = lent_zeros _ _ PageTo _ _ _ _ longest_page c.min.ensures c.page.ensures
