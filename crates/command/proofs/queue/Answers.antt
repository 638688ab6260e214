-- `command::queue` meets its contract.
use Rattle.std.proofs.Common.{◌≡◌, ◌∙◌, sym, ap, Some}
use Rattle.command.specs.Reading.{word_of, number_in, path_of, rows, called, queued_in, edit_in, queued_as}
use Rattle.command.specs.declared.Command.{Command}
use Rattle.command.proofs.Reading.{queued_other}
use Rattle.command.proofs.queue.Goals as goal

pub returns-in_err-edit : goal.returns-in_err-edit
unfolding queued_in edit_in queued_as
returns-in_err-edit c =
    let rest = c.behind_word-rest.ensures in
    let number : number_in (word_of (path_of c.args.line.now)) ≡ Some c.in_ok-console.console =
    ap number_in (ap word_of (sym rest) ∙ sym c.up_to.ensures) ∙ sym c.read_number.ensures ∙ c.in_ok-console.was in
    let edit : called rows (path_of (path_of c.args.line.now)) ≡ Command.Unknown =
    ap (λ l. called rows (path_of l)) (sym rest) ∙ ap (called rows) (sym c.behind_word.ensures) ∙ sym c.in_err-edit.ensures in
    rw (number, edit, c.from_residual-in_err-edit.ensures)

pub returns-in_default : goal.returns-in_default
unfolding queued_in
returns-in_default c =
    let rest = c.behind_word-rest.ensures in
    let number : number_in (word_of (path_of c.args.line.now)) ≡ Some c.in_ok-console.console =
    ap number_in (ap word_of (sym rest) ∙ sym c.up_to.ensures) ∙ sym c.read_number.ensures ∙ c.in_ok-console.was in
    let edit : called rows (path_of (path_of c.args.line.now)) ≡ c.in_ok-edit.field-0 =
    ap (λ l. called rows (path_of l)) (sym rest) ∙ ap (called rows) (sym c.behind_word.ensures) ∙ sym c.in_ok-edit.ensures in
    rw (number, edit) (sym (queued_other c.in_ok-console.console c.in_ok-edit.field-0 c.in_default.not-Alter))
