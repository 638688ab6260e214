-- `meter::is_reading` meets its contract.
use Rattle.std.proofs.Common.{arith, le→leb}
use lib.Ieee.{of_bits, in_float}
use Rattle.meter.proofs.Readings.{reading_low, reading_high, reading_between}
use Rattle.meter.proofs.is_reading.Goals as goal
use Rattle.meter.proofs.is_reading.Goals.{else-x-via-then-x+else-x-2, else-x-via-else-x}

pub int_to_float-result : goal.int_to_float-result
unfolding in_float
int_to_float-result c = le→leb c.parts_in.result 16777216 (omega (arith, c.parts_in.ensures.small))

pub returns-then-x-2 : goal.returns-then-x-2
unfolding of_bits
returns-then-x-2 c =
    λ bits e.
    reading_between c.args.x bits e c.well_formed.0.1 c.if-x.true c.if-x-2.true
    c.parts_in.result c.parts_in.ensures.small c.parts_in.ensures.parts

pub returns-else-x : goal.returns-else-x
unfolding of_bits
returns-else-x c =
    λ bits e.
    elim c.else-x.branch [
      | else-x-via-then-x+else-x-2 w ↦ reading_high c.args.x bits e w.if-x.true w.if-x-2.false
      | else-x-via-else-x w ↦ reading_low c.args.x bits e w.if-x.false
    ]
