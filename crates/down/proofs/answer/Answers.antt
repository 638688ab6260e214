-- `down::answer` meets its contract.
use Rattle.convert.proofs.Told.{down_put}
use Rattle.down.proofs.answer.Goals as goal

pub returns : goal.returns
returns c =
    let told = c.put_answer in
    down_put c.args.file.now c.args.out.now _ _ _ told.result c.requires told.ensures c.down-answer.ensures.same
