-- `most_printed` meets its contract.
use Rattle.std.proofs.Common.{refl}
use Rattle.texts.proofs.Trips.{promises}
use Rattle.texts.proofs.most_printed.Goals as goal

pub returns : goal.returns
returns c = (refl, promises)
