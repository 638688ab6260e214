-- What a fresh unit makes of a file, as the reply that the rules give it: a file that is refused leaves the unit fresh.
use Rattle.std.specs.Prelude.{Result, Ok, Err}
use Rattle.rules.specs.Answers.{refusal_number, Accepted, Refused}
use Rattle.rules.specs.Blocks.{no_blocks}
use Rattle.rules.specs.Calls.{fresh_unit, Reply}
use Rattle.rules.specs.District.{District}
use Rattle.rules.specs.declared.Programme.{Programme}
use Rattle.rules.specs.declared.Unit.{Unit}
use Rattle.rules.specs.declared.refusals.Refusal.{Refusal}

abbrev pub reply_in : Result Unit Refusal → Reply
reply_in (Ok unit) = record { answer = Accepted 0; unit = unit }
reply_in (Err refusal) = record { answer = Refused (refusal_number refusal); unit = fresh_unit }

-- the unit of a programme and of the district that was lent for it, no blocks chosen
abbrev pub planned_unit : Result Programme Refusal → District → Result Unit Refusal
planned_unit (Ok programme) d = Ok (record { district = d; choice = no_blocks; programme = programme })
planned_unit (Err refusal) d = Err refusal
