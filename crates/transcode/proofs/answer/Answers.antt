-- `transcode::answer` meets its contract: a refusal is a byte, and no file is longer than the buffer.
use Rattle.std.proofs.Common.{arith, rules}
use Rattle.rules.specs.Answers.{refusal_number}
use Rattle.file.proofs.Longest.{longest}
use Rattle.rules.proofs.RefusalNumbers.{numbered}
use Rattle.transcode.proofs.Framed.{answered_refusal, answered_file}
use Rattle.transcode.proofs.answer.Goals as goal

pub put_district-requires : goal.put_district-requires
put_district-requires c = (search rules, omega (arith, longest c.in-Ok.d c.in-Ok.ensures.ranged))

pub returns-in-Ok : goal.returns-in-Ok
returns-in-Ok c =
    let l = c.in-Ok in
    rw (← answered_file c.args.frame.now l.d l.ensures.refusal l.ensures.district) c.put_district.ensures

pub returns-in-Err : goal.returns-in-Err
returns-in-Err c =
    let l = c.in-Err in
    rw (← answered_refusal c.args.frame.now (refusal_number l.refusal) (numbered l.refusal) l.ensures.refusal, ← c.byte_of.ensures) c.put.ensures
