-- A refusal has a number of 1 at least: 0 is none.
use Rattle.std.proofs.Common.{◌≤◌, lit≤}
use Rattle.rules.specs.Answers.{refusal_number}
use Rattle.rules.specs.declared.refusals.Refusal.{Refusal}
use Rattle.rules.specs.declared.refusals.Refusal.TheVariants.{CutShort, OtherKind, OtherLength, OutOfRange, BytesFollow, NoSuchSegment, NoSuchNumber, NewOutOfRange, BufferTooShort, NoSuchPoints, NoRoomForPage, NoReading, WindowEmpty, LeaderNotBelow, LeaderSet, NoSuchOffice, TablesInUse, WrongField, WrongLine, NoSuchConsole, QueueFull}

pub numbered : (r : Refusal) → 1 ≤ refusal_number r
numbered CutShort = lit≤ tt
numbered OtherKind = lit≤ tt
numbered OtherLength = lit≤ tt
numbered OutOfRange = lit≤ tt
numbered BytesFollow = lit≤ tt
numbered NoSuchSegment = lit≤ tt
numbered NoSuchNumber = lit≤ tt
numbered NewOutOfRange = lit≤ tt
numbered BufferTooShort = lit≤ tt
numbered NoSuchPoints = lit≤ tt
numbered NoRoomForPage = lit≤ tt
numbered NoReading = lit≤ tt
numbered WindowEmpty = lit≤ tt
numbered LeaderNotBelow = lit≤ tt
numbered LeaderSet = lit≤ tt
numbered NoSuchOffice = lit≤ tt
numbered TablesInUse = lit≤ tt
numbered WrongField = lit≤ tt
numbered WrongLine = lit≤ tt
numbered NoSuchConsole = lit≤ tt
numbered QueueFull = lit≤ tt
