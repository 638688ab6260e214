-- `ceiling::Search::price_one` meets its contract.
use Prim.Native.Nat.{◌<◌}
use mathlib.Core.Path.{◌≡◌, sym, ◌∙◌}
use native.Mathlib.Omega.{arith}
use Rattle.rules.specs.Ceiling.{price_at}
use Rattle.ceiling.specs.Views.{priced_in}
use Rattle.ceiling.proofs.Rounds.{priced_up, priced_low, priced_down}
use Rattle.ceiling.proofs.Search.price_one.Goals as goal

pub try_price-requires : goal.try_price-requires
try_price-requires c = c.requires.le_r.1

pub returns-then-try_price-clause-prices_after : goal.returns-then-try_price-clause-prices_after
returns-then-try_price-clause-prices_after c =
    let s = c.args.self.now in
    rw c.if-try_price.true at c.try_price.ensures.prices_after ∙ priced_up (priced_in s.table) c.args.step s.prices c.args.r (sym c.try_price.ensures.value ∙ c.if-try_price.true)

pub try_price-requires-2 : goal.try_price-requires-2
try_price-requires-2 c = rw c.try_price.ensures.same_table c.requires.le_r.1

pub returns-in_default-clause-prices_after : goal.returns-in_default-clause-prices_after
returns-in_default-clause-prices_after c =
    let s = c.args.self.now in
    let below : price_at s.prices c.args.r < c.args.step = omega (arith, c.in_default.ensures) in
    rw c.if-try_price.false at c.try_price.ensures.prices_after
    ∙ priced_low (priced_in s.table) c.args.step s.prices c.args.r (sym c.try_price.ensures.value ∙ c.if-try_price.false) below

pub returns-clause-prices_after : goal.returns-clause-prices_after
returns-clause-prices_after c =
    let s = c.args.self.now in
    let same : c.try_price.new.self.prices ≡ s.prices = rw c.if-try_price.false at c.try_price.ensures.prices_after in
    let value = rw (c.in-Some.ensures.1, c.try_price.ensures.same_table, same) at c.try_price-2.ensures.value in
    rw (c.in-Some.ensures.1, value, same) at c.try_price-2.ensures.prices_after
    ∙ priced_down (priced_in s.table) c.args.step s.prices c.args.r (sym c.try_price.ensures.value ∙ c.if-try_price.false) c.in-Some.ensures.0
