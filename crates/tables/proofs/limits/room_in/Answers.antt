-- `tables::room_in` meets its contract: no sum wraps.
use native.Mathlib.Omega.{arith}
use Rattle.tables.proofs.limits.room_in.Goals as goal

pub overflow_add-result : goal.overflow_add-result
overflow_add-result c = omega (arith, c.requires.testable.sums_small c.args.r (omega arith) (omega arith))
