-- `blocks::Blocks::district` meets its contract.
use Rattle.blocks.proofs.BlockRanges.{block_ranges}
use Rattle.blocks.proofs.Blocks.district.Goals as goal

pub returns-clause-ranges : goal.returns-clause-ranges
returns-clause-ranges c =
    let b = c.args.self.now in
    rw (c.district.ensures, c.row.ensures.0, c.row.ensures.1) (block_ranges _ _ b.ranged.in_range b.followed _ c.requires.0 c.requires.1)
