-- `cards::fields::hundredths` meets its contract.
use Rattle.std.proofs.Common.{None, sym, refl, ◌∙◌}
use Rattle.base.specs.Text.{going_on, held}
use Rattle.cards.proofs.Written.{hundredths_none, hundredths_some}
use Rattle.cards.proofs.fields.hundredths.Goals as goal

pub returns-then-not-has_decimal_form : goal.returns-then-not-has_decimal_form
returns-then-not-has_decimal_form c = hundredths_none c.args.field.now (sym c.has_decimal_form.ensures ∙ c.if-not-has_decimal_form.true)

pub returns-in_err-units : goal.returns-in_err-units
unfolding going_on held
returns-in_err-units c =
    c.from_residual.ensures
    ∙ hundredths_some c.args.field.now {v = None} (sym c.has_decimal_form.ensures ∙ c.if-not-has_decimal_form.false) c.before_point.ensures (sym c.in_err-units.was ∙ c.digits_after.ensures)
    c.after_point-part.ensures refl refl refl

pub returns-in_err-digits : goal.returns-in_err-digits
unfolding going_on held
returns-in_err-digits c =
    c.from_residual-in_err-digits.ensures
    ∙ hundredths_some c.args.field.now (sym c.has_decimal_form.ensures ∙ c.if-not-has_decimal_form.false) c.before_point.ensures (sym c.in_ok-units.was ∙ c.digits_after.ensures)
    c.after_point-part.ensures (sym c.in_err-digits.was ∙ c.digits_after-2.ensures) refl refl

pub returns : goal.returns
unfolding going_on
returns c =
    hundredths_some c.args.field.now (sym c.has_decimal_form.ensures ∙ c.if-not-has_decimal_form.false) c.before_point.ensures (sym c.in_ok-units.was ∙ c.digits_after.ensures)
    c.after_point-part.ensures (sym c.in_ok-digits.was ∙ c.digits_after-2.ensures) c.drop.ensures c.digits_after-3.ensures
