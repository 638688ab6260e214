-- `tables::BenefitTable::total` meets its contract: the sum fits.
use Rattle.std.proofs.Common.{rules, ℕ, ◌+◌, ◌^◌, arith}
use Rattle.base.proofs.Ranges.{range_fits, range_total}
use Rattle.rules.specs.Phases.{strategy_at, total, chosen_benefit}
use Rattle.tables.specs.Arrays.{benefit_at}
use Rattle.tables.proofs.Arrays.{benefits_le, range_sum}
use Rattle.tables.proofs.lent.BenefitTable.total.Goals as goal

pub sum-requires-clause-fits : goal.sum-requires-clause-fits
sum-requires-clause-fits c =
    let b = c.args.self.entries.now in
    let n = c.args.z.segments in
    let each = λ (k : ℕ). benefit_at b k (strategy_at c.args.choice.now k) in
    range_fits c.map.result (λ k. each (k + 1)) n (range_sum n each) c.map.ensures.source c.map.ensures.closure (λ x r q k. search rules) (2 ^ 64)
    (omega (arith, benefits_le c.args.self.held c.args.choice.now n, c.requires.0.segments))

pub returns : goal.returns
unfolding total chosen_benefit
returns c =
    let b = c.args.self.entries.now in
    let n = c.args.z.segments in
    let each = λ (k : ℕ). benefit_at b k (strategy_at c.args.choice.now k) in
    λ u l. range_total c.map.result (λ k. each (k + 1)) n (range_sum n each) c.map.ensures.source c.map.ensures.closure (λ x r q k. search rules) c.sum.result c.sum.ensures.ran
