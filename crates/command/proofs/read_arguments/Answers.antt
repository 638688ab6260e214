-- `command::read_arguments` meets its contract.
use Rattle.std.proofs.Common.{◌≡◌, ◌∙◌, sym, ap, ◌-◌, take, arith}
use lib.ListN.{length-set}
use native.Mathlib.Nat.{sub-zero}
use lib.Seq.{length-take-le, take_all}
use Rattle.command.specs.Reading.{placed}
use Rattle.command.proofs.Reading.{prefixed_none, read_one, read_none, read_all}
use Rattle.command.proofs.read_arguments.Goals as goal

pub loop-number-init : goal.loop-number-init
loop-number-init c = record { all = rw sub-zero (sym (prefixed_none _)); size = length-take-le c.args.n _ (omega arith) }

pub returns-in_err-number : goal.returns-in_err-number
returns-in_err-number c =
    let l = c.loop-number in
    ap placed (c.from_residual.ensures ∙ sym (read_none c.args.n l.number-index l.rest.now l.number-items (omega arith) l.invariant.all c.in_err-number.ensures))

pub loop-number-preserved : goal.loop-number-preserved
loop-number-preserved c =
    let l = c.loop-number in
    let r = c.in_ok-number in
    record {
      all = read_one c.args.n l.number-index l.rest.now l.number-items (omega arith) l.invariant.all r.field-0-0 r.field-0-1.now (omega arith) r.ensures.0 r.ensures.1;
      size = length-set l.number-items l.number-index r.field-0-0 ∙ l.invariant.size;
    }

pub returns : goal.returns
returns c =
    let l = c.loop-number in
    let n = c.args.n in
    let end : l.number-index ≡ n = omega arith in
    let none : n - l.number-index ≡ 0 = omega arith in
    let whole : take l.number-index l.number-items ≡ l.number-items = take_all l.number-index l.number-items (omega arith) in
    ap placed (rw c.is_empty.ensures at c.then_some.ensures) ∙ read_all n 4 l.number-items l.rest.now (rw (whole, none) at l.invariant.all)
