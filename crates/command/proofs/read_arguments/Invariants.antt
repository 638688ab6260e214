use Rattle.std.proofs.Common.{◌≡◌, ◌-◌, length, take}
use Rattle.command.specs.Reading.{arguments}
use Rattle.command.proofs.Reading.{prefixed}
use Rattle.command.proofs.read_arguments.Given as goal

-- those that are read, and what is still to be read, are all
abbrev pub invariant-loop-number : goal.invariant-loop-number
invariant-loop-number l =
    record {
      all : arguments l.n l.bytes ≡ prefixed (take l.number-index l.number-items) (arguments (l.n - l.number-index) l.rest);
      size : length l.number-items ≡ l.n;
    }
