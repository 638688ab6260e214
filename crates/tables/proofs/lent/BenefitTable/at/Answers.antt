-- `tables::BenefitTable::at` meets its contract.
use Rattle.tables.proofs.Arrays.{benefit_at_lem}
use Rattle.tables.proofs.lent.BenefitTable.at.Goals as goal

pub returns : goal.returns
returns c =
    let t = c.args.self in
    record { value = rw c.entry.ensures (benefit_at_lem t.held _ _ c.requires); small = t.held.small _ }
