-- `planner::table_in` meets its contract.
use Rattle.planner.proofs.table_in.Goals as goal

pub returns : goal.returns
returns c = λ d filled. record { table = filled.table; leaders = filled.leader; fit = filled.fit }
