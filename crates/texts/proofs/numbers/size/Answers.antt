-- `numbers::size` meets its contract.
use Rattle.std.proofs.Common.{◌+◌, ◌-◌, ◌*◌, ◌≤◌, ◌≡◌, inl, inr, length, get_or, sym, ap, ◌∙◌, drop, arith}
use borrow.Author.Tests.{true-eqb, false-eqb}
use Rattle.base.specs.Text.{value_from}
use Rattle.texts.proofs.Digits.{read_on, stops, ends, no_size, sized, grows}
use Rattle.texts.proofs.numbers.size.Goals as goal

pub returns-then-is_empty-clause-value : goal.returns-then-is_empty-clause-value
returns-then-is_empty-clause-value c = let e = true-eqb _ 0 c.if-is_empty.ensures in sym (no_size c.args.digits.now (inl (omega arith)))

pub returns-then-digits-gt20-clause-value : goal.returns-then-digits-gt20-clause-value
returns-then-digits-gt20-clause-value c = sym (no_size c.args.digits.now (inr (omega arith)))

pub returns-then-not-is_ascii_digit-clause-value : goal.returns-then-not-is_ascii_digit-clause-value
returns-then-not-is_ascii_digit-clause-value c =
    let ds = c.args.digits.now in
    let l = c.loop-byte in
    let k = false-eqb _ 0 c.if-is_empty.ensures in
    let some : 1 ≤ length ds = omega arith in
    sym (sized ds some (omega arith) ∙ sym l.invariant.0 ∙ stops ds l.byte-index l.size (omega arith) c.if-not-is_ascii_digit.ensures.cases)

pub loop-byte-preserved : goal.loop-byte-preserved
loop-byte-preserved c =
    let ds = c.args.digits.now in
    let l = c.loop-byte in
    let digit = c.if-not-is_ascii_digit.ensures.cases in
    let is : c.from.result ≡ get_or ds l.byte-index 0 - 48 = c.from.ensures in (
      ap (λ d. value_from (l.size * 10 + d) (drop (l.byte-index + 1) ds)) is ∙ sym (read_on ds l.byte-index l.size (omega arith) digit.0 digit.1) ∙ l.invariant.0,
      grows l.size l.byte-index c.from.result l.invariant.1 (omega arith),
    )

pub returns-clause-value : goal.returns-clause-value
returns-clause-value c =
    let ds = c.args.digits.now in
    let l = c.loop-byte in
    let k = false-eqb _ 0 c.if-is_empty.ensures in
    let some : 1 ≤ length ds = omega arith in
    sym (sized ds some (omega arith) ∙ sym l.invariant.0 ∙ ends ds l.byte-index l.size (omega arith))
