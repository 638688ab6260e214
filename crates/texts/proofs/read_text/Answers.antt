-- `read_text` meets its contract.
use Rattle.std.proofs.Common.{ℕ, ◌+◌, ◌≤◌, ◌≡◌, List, [], length, refl, ap, ◌∙◌, arith}
use borrow.Author.Tests.{le-leb}
use Rattle.std.proofs.lemmas.Result.{err_from_is_err_and}
use Rattle.grammar.specs.Slots.{form_number}
use Rattle.rules.specs.Format.{file_records}
use Rattle.texts.specs.Words.{lines_in, lines_of}
use Rattle.texts.specs.Complaints.{longest_text}
use Rattle.texts.specs.Reading.{form_in, read_records, formed, read_lines, read_text}
use Rattle.texts.proofs.Fronts.{too_long}
use Rattle.texts.proofs.Passed.{lines_few}
use Rattle.texts.proofs.read_text.Goals as goal

within : (bs : List ℕ) (form : ℕ) → length bs ≤ longest_text → form ≡ form_in (lines_of bs) → read_text bs ≡ formed form (read_records form (1 + lines_in bs) file_records 0 [] (lines_of bs))
unfolding read_text read_lines
within bs form h e =
    let last : lines_in bs + 1 ≡ 1 + lines_in bs = omega arith in
    rw (le-leb (length bs) longest_text h, last, e) refl

pub returns-then-text-gt-LONGEST_TEXT : goal.returns-then-text-gt-LONGEST_TEXT
returns-then-text-gt-LONGEST_TEXT c = too_long c.args.text.now c.if-text-gt-LONGEST_TEXT.true

pub invariant_of-lines : goal.invariant_of-lines
invariant_of-lines c = record { few = omega (arith, lines_few c.args.text.now) }

pub returns-in_err-read_records : goal.returns-in_err-read_records
unfolding lines_of
returns-in_err-read_records c =
    let k = err_from_is_err_and c.from_residual.result c.from_residual.ensures.1 in
    rw (k.1, k.2) (within c.args.text.now (form_number c.form_in-form.result) c.if-text-gt-LONGEST_TEXT.false c.form_in-form.ensures ∙ ap (formed (form_number c.form_in-form.result)) c.in_err-read_records.ensures)

pub returns : goal.returns
unfolding lines_of
returns c = within c.args.text.now (form_number c.form_in-form.result) c.if-text-gt-LONGEST_TEXT.false c.form_in-form.ensures ∙ ap (formed (form_number c.form_in-form.result)) c.in_ok-read_records.ensures
