-- `text::with_digit` meets its contract.
use Rattle.std.proofs.Common.{sym, ◌∙◌}
use Rattle.text.proofs.Digits.{not_held, digit_held, over_held}
use Rattle.text.proofs.with_digit.Goals as goal

pub returns-then-not-is_ascii_digit : goal.returns-then-not-is_ascii_digit
returns-then-not-is_ascii_digit c = sym (not_held c.args.value c.args.byte c.if-not-is_ascii_digit.ensures.cases)

pub returns-in_err-checked_mul : goal.returns-in_err-checked_mul
returns-in_err-checked_mul c =
    let digit = c.if-not-is_ascii_digit.ensures.cases in
    c.from_residual.ensures ∙ sym (over_held c.args.value c.args.byte c.in_err-checked_mul.ensures digit.0 digit.1)

pub returns : goal.returns
returns c =
    let digit = c.if-not-is_ascii_digit.ensures.cases in
    let p = c.in_ok-checked_mul.ensures in
    digit_held c.args.value c.args.byte _ digit.0 digit.1 (rw (← c.from.ensures, ← p.1) c.checked_add.ensures)
