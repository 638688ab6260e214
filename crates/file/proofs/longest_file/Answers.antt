-- `longest_file` meets its contract.
use mathlib.Core.Path.{refl}
use Rattle.file.proofs.Trips.{trips}
use Rattle.file.proofs.longest_file.Goals as goal

pub returns : goal.returns
returns c = (refl, trips)
