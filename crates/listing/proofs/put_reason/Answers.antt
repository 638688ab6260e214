-- `listing::put_reason` meets its contract: each line has room.
use Rattle.std.proofs.Common.{arith}
use Rattle.base.specs.Text.{text}
use Rattle.listing.specs.Listing.{reason_line}
use Rattle.listing.proofs.Lengths.{pair_fits, over_fits}
use Rattle.listing.proofs.put_reason.Goals as goal

pub put_pair-requires : goal.put_pair-requires
put_pair-requires c = pair_fits _ _ _ _ _ c.requires

pub put_over-requires : goal.put_over-requires
put_over-requires c = over_fits _ _ _ (omega arith) c.requires

pub put_over-requires-in-OverBeside : goal.put_over-requires-in-OverBeside
put_over-requires-in-OverBeside c = over_fits _ _ _ (omega arith) c.requires

pub returns-in-MinimumMissed : goal.returns-in-MinimumMissed
unfolding reason_line text
returns-in-MinimumMissed c = rw c.in-MinimumMissed.is c.put_pair.ensures
