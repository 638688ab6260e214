-- `phase1::draft_of` meets its contract.
use native.Mathlib.Omega.{arith}
use Rattle.phase1.proofs.Pulls.{uses_summable, uses_running}
use Rattle.phase1.proofs.draft_of.Goals as goal

pub sums_of-sums-requires : goal.sums_of-sums-requires
sums_of-sums-requires c = uses_summable c.requires.0 c.args.uses.held c.requires.1

pub returns : goal.returns
returns c = record { running = uses_running c.requires.0 c.args.uses.held c.requires.1 (omega arith) c.sums_of-sums.ensures; same_choice = cc }
