-- `ceiling::Candidates::reprice` meets its contract.
use native.Mathlib.Omega.{arith}
use Rattle.ceiling.proofs.candidates.Candidates.reprice.Goals as goal

pub reprice_segment-requires-clause-prices : goal.reprice_segment-requires-clause-prices
reprice_segment-requires-clause-prices c = c.requires.prices

pub reprice_segment-requires-clause-le_i : goal.reprice_segment-requires-clause-le_i
reprice_segment-requires-clause-le_i c = (omega arith, omega arith)
