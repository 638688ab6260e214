-- `printing::put_written` meets its contract: the digits stand behind the sign.
use Rattle.std.proofs.Common.{nat_abs, refl, length-append, arith}
use Rattle.std.proofs.Math.Facts.{to_z-of_z}
use Rattle.base.specs.Text.{decimal, digits_of}
use Rattle.base.proofs.Text.{front_fits, put_within}
use Rattle.listing.proofs.Pieces.{second_fits, put_two}
use Rattle.texts.proofs.Printed.{written_as}
use Rattle.texts.proofs.printing.put_written.Goals as goal

pub put-at-requires : goal.put-at-requires
put-at-requires c =
    let v = c.args.v in
    front_fits c.sign_of.result.now (decimal (nat_abs v)) (rw (written_as v (rw (to_z-of_z c.ranges.v) at c.sign_of.ensures) refl) at c.requires)

pub put_digits-requires : goal.put_digits-requires
unfolding decimal
put_digits-requires c =
    let sign = c.sign_of.result.now in
    let size = c.unsigned_abs.result in
    let e = written_as c.args.v (rw (to_z-of_z c.ranges.v) at c.sign_of.ensures) (rw (to_z-of_z c.ranges.v) at c.unsigned_abs.ensures.value) in
    second_fits sign (digits_of 20 size) (rw e at c.requires) c.put-at.ensures

pub returns : goal.returns
unfolding decimal
returns c =
    let sign = c.sign_of.result.now in
    let size = c.unsigned_abs.result in
    let e = written_as c.args.v (rw (to_z-of_z c.ranges.v) at c.sign_of.ensures) (rw (to_z-of_z c.ranges.v) at c.unsigned_abs.ensures.value) in
    rw e (put_two sign (digits_of 20 size) (rw e at c.requires) c.put-at.ensures c.put_digits.ensures)

pub slice_bounds-put_digits-count : goal.slice_bounds-put_digits-count
slice_bounds-put_digits-count c = put_within c.put-at.ensures

pub overflow_add-result : goal.overflow_add-result
unfolding decimal
overflow_add-result c =
    let e = written_as c.args.v (rw (to_z-of_z c.ranges.v) at c.sign_of.ensures) (rw (to_z-of_z c.ranges.v) at c.unsigned_abs.ensures.value) in
    omega (arith, length-append c.sign_of.result.now (digits_of 20 c.unsigned_abs.result), rw e at c.requires)
