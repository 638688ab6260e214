-- `script::body_of` meets its contract.
use Rattle.std.proofs.Common.{arith}
use Rattle.script.proofs.Numbers.{number_small}
use Rattle.script.proofs.body_of.Goals as goal

pub overflow_mul-result : goal.overflow_mul-result
overflow_mul-result c =
    let small = number_small 5 c.args.call.now (λ i. omega (arith, c.type_inv.call i)) in
    omega (arith, small, c.number-in-18.ensures)
