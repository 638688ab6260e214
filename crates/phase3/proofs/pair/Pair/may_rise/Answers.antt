-- `phase3::pair::Pair::may_rise` meets its contract: the greatest benefits are the arrays', and their sum does not wrap.
use native.Mathlib.Omega.{arith}
use Rattle.phase3.proofs.ChangeSearch.{top_le}
use Rattle.phase3.proofs.pair.Pair.may_rise.Goals as goal

pub overflow_add-result : goal.overflow_add-result
overflow_add-result c =
    let pair = c.args.self.now in
    let pass = pair.pass.now in
    let t = pass.planning.now.t in
    let tops = pass.topped.each in
    omega (
      arith,
      tops pair.i (omega arith) (omega arith),
      tops pair.k (omega arith) (omega arith),
      top_le t.size.strategies t.benefits.held pair.i,
      top_le t.size.strategies t.benefits.held pair.k,
    )
