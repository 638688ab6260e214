-- `meter::parts_in` meets its contract.
use lib.Ieee.{of_bits}
use Rattle.meter.proofs.Whole.{call_low, call_high, parts_small, parts_are, none_below, none_above}
use Rattle.meter.proofs.parts_in.Goals as goal
use Rattle.meter.proofs.parts_in.Goals.{else-x-via-then-x+else-x-2, else-x-via-else-x}

pub truncating_f32_to_u64-requires : goal.truncating_f32_to_u64-requires
unfolding of_bits
truncating_f32_to_u64-requires c =
    let f = c.well_formed.0.1 in
    record { lower_bound = call_low c.args.x f c.if-x.true c.if-x-2.true; upper_bound = call_high c.args.x f c.if-x.true c.if-x-2.true }

pub returns-then-x-2 : goal.returns-then-x-2
unfolding of_bits
returns-then-x-2 c =
    let f = c.well_formed.0.1 in
    let lo = c.if-x.true in
    rw c.truncating_f32_to_u64.ensures (
    record {
      parts = λ a b B v l. parts_are c.args.x f lo c.if-x-2.true a b B v;
      small = parts_small c.args.x f lo c.if-x-2.true;
    }
    )

pub returns-else-x-clause-parts : goal.returns-else-x-clause-parts
unfolding of_bits
returns-else-x-clause-parts c =
    λ a b B v l.
    elim c.else-x.branch [
      | else-x-via-then-x+else-x-2 w ↦ none_above c.args.x a b B v l w.if-x-2.false
      | else-x-via-else-x w ↦ none_below c.args.x a b B v w.if-x.false
    ]
