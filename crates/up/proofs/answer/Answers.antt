-- `up::answer` meets its contract.
use Rattle.convert.proofs.Told.{up_put}
use Rattle.up.proofs.answer.Goals as goal

pub returns : goal.returns
returns c =
    let told = c.put_answer in
    up_put c.args.file.now c.args.out.now _ _ _ told.result c.requires told.ensures c.up-answer.ensures.same
