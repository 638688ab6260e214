-- `command::take` meets its contract.
use Rattle.std.proofs.Common.{true, rules}
use Rattle.command.specs.Reading.{placed, taken}
use Rattle.command.proofs.Reading.{no_numbers}
use Rattle.command.proofs.take.Goals as goal

pub returns-in-Queued : goal.returns-in-Queued
unfolding placed taken
returns-in-Queued c = search rules

pub returns-in-Blocks : goal.returns-in-Blocks
unfolding taken
returns-in-Blocks c = rw c.in-Blocks.is (no_numbers true)
