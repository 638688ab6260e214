-- `convert::up` meets its contract.
use Rattle.std.proofs.lemmas.Result.{err_from_is_err_and}
use Rattle.rules.specs.Answers.{refusal_number}
use Rattle.rules.proofs.RefusalNumbers.{numbered}
use Rattle.convert.proofs.Turns.{up_and_down}
use Rattle.convert.proofs.Loads.{file_refused, up_turned}
use Rattle.convert.proofs.up.Goals as goal

pub returns-in_err-d : goal.returns-in_err-d
returns-in_err-d c =
    let a = c.args in
    let g = c.in_err-d in
    let k = err_from_is_err_and c.from_residual.result c.from_residual.ensures.1 in
    record { same = rw (k.1, k.2) ((file_refused a.file.now a.out.now (refusal_number g.field-0.0) (numbered g.field-0.0)).0 (rw g.was at c.load_as.ensures.refusal)); back = up_and_down _ }

pub returns : goal.returns
returns c =
    let a = c.args in
    let g = c.in_ok-d in
    record { same = up_turned a.file.now a.out.now g.d _ (rw g.was at c.load_as.ensures.refusal) (rw g.was at c.load_as.ensures.district) c.export_as.ensures; back = up_and_down _ }
