-- `tables::UsageTable::at` meets its contract.
use Rattle.tables.proofs.Arrays.{usage_at_lem}
use Rattle.tables.proofs.lent.UsageTable.at.Goals as goal

pub returns : goal.returns
returns c =
    let t = c.args.self in
    record { value = rw c.use_entry.ensures (usage_at_lem t.held _ _ _ c.requires.0 c.requires.1 c.requires.2); small = t.held.small _ }
