-- Each is a letter or a digit.
use Rattle.std.proofs.Common.{◌<◌, arith, rules}
use Rattle.disk.proofs.random_letters.Goals as goal

pub returns : goal.returns
returns g c = λ k d h. let z : k < 6 = omega (arith, c.map.ensures.items.long) in let e = (c.map.ensures.items.at k 0 d z).2 in search (rules, e)
