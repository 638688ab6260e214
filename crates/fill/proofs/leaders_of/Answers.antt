-- `fill::leaders_of` meets its contract.
use Rattle.std.proofs.Common.{rules, arith, ◌≡◌, ◌+◌, ◌-◌}
use Rattle.base.proofs.Made.{made_at}
use Rattle.rules.specs.District.{leader_of, most_segments}
use Rattle.fill.specs.Lists.{leader_list}
use Rattle.fill.proofs.Front.{each_listed_is}
use Rattle.fill.proofs.leaders_of.Goals as goal

pub returns : goal.returns
unfolding leader_list leader_of
returns c =
    let leader = leader_of c.args.d.now in
    each_listed_is leader c.from_fn.result most_segments c.from_fn.ensures.items.long
    (λ r low high. let at : r - 1 + 1 ≡ r = omega arith in rw at at (made_at (λ x y. y ≡ leader (x + 1)) (λ x y f under called. (search rules, search rules)) c.from_fn.ensures.items (r - 1) 0 (omega arith)))
