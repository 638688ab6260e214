use Rattle.std.proofs.Common.{◌≡◌, ◌<◌, ◌^◌, drop}
use Rattle.base.specs.Text.{value_from}
use Rattle.texts.proofs.numbers.size.Given as goal

-- the digits to come go on from the value of those before
abbrev pub invariant-loop-byte : goal.invariant-loop-byte
invariant-loop-byte l = (value_from l.size (drop l.byte-index l.digits) ≡ value_from 0 l.digits) × (l.size < 10 ^ l.byte-index)
