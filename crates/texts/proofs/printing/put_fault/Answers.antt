-- `printing::put_fault` meets its contract: each thing that may be wrong has its function, but one.
use Rattle.base.specs.Text.{text}
use Rattle.texts.specs.Complaints.{fault_text}
use Rattle.texts.proofs.printing.put_fault.Goals as goal

pub put-requires : goal.put-requires
unfolding fault_text text
put-requires c = rw c.in-BehindEnd.is at c.requires

pub returns-in-BehindEnd : goal.returns-in-BehindEnd
unfolding fault_text text
returns-in-BehindEnd c = rw c.in-BehindEnd.is c.put.ensures
