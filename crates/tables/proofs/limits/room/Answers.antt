-- `tables::room` meets its contract: the chain's answer is that of the rules' test.
use Rattle.std.proofs.Common.{rules}
use Rattle.std.proofs.iter.runs.Sources.{ranges}
use Rattle.tables.specs.Moves.{room_for}
use Rattle.tables.proofs.Moves.{all_is}
use Rattle.tables.proofs.limits.room.Goals as goal

pub all-requires-clause-can : goal.all-requires-clause-can
all-requires-clause-can c = tt

pub all-requires-clause-finite : goal.all-requires-clause-finite
all-requires-clause-finite c = tt

pub returns : goal.returns
unfolding room_for
returns c = all_is _ _ _ (search (rules, ranges))
