-- `convert::down` meets its contract.
use Rattle.std.proofs.Common.{sym, ◌∙◌}
use Rattle.std.proofs.lemmas.Result.{err_from_is_err_and}
use Rattle.rules.specs.Answers.{refusal_number}
use Rattle.rules.proofs.RefusalNumbers.{numbered}
use Rattle.convert.proofs.Turns.{down_and_up}
use Rattle.convert.proofs.Loads.{file_refused, down_led, down_turned}
use Rattle.convert.proofs.down.Goals as goal

pub returns-in_err-d : goal.returns-in_err-d
returns-in_err-d c =
    let a = c.args in
    let g = c.in_err-d in
    let k = err_from_is_err_and c.from_residual.result c.from_residual.ensures.1 in
    record { same = rw (k.1, k.2) ((file_refused a.file.now a.out.now (refusal_number g.field-0.0) (numbered g.field-0.0)).1 (rw g.was at c.load_as.ensures.refusal)); back = down_and_up _ }

pub returns-then-not-is_leaderless : goal.returns-then-not-is_leaderless
returns-then-not-is_leaderless c =
    let a = c.args in
    let g = c.in_ok-d in
    record { same = down_led a.file.now a.out.now g.d (rw g.was at c.load_as.ensures.refusal) (rw g.was at c.load_as.ensures.district) (sym c.is_leaderless.ensures ∙ c.if-not-is_leaderless.true); back = down_and_up _ }

pub returns : goal.returns
returns c =
    let a = c.args in
    let g = c.in_ok-d in
    record { same = down_turned a.file.now a.out.now g.d _ (rw g.was at c.load_as.ensures.refusal) (rw g.was at c.load_as.ensures.district) (sym c.is_leaderless.ensures ∙ c.if-not-is_leaderless.false) c.export_as.ensures; back = down_and_up _ }
