-- `frames::read` meets its contract.
use Rattle.std.proofs.Common.{rules, ◌≡◌, ◌≤◌, arith, length, length-take-le, sym, ◌∙◌}
use Rattle.std.specs.Io.KnownBytes.{Consumes}
use Rattle.base.specs.Bytes.{number_of}
use Rattle.frames.proofs.Turns.{of_four, told, not_read}
use Rattle.std.proofs.lemmas.Result.{err_from_is_err_and}
use Rattle.frames.proofs.read.Goals as goal

pub returns-in_err-fill-2-clause-failed : goal.returns-in_err-fill-2-clause-failed
returns-in_err-fill-2-clause-failed g c =
    let n : c.from_le_bytes.result ≡ number_of c.fill.new.space = c.from_le_bytes.ensures ∙ sym (of_four _ c.fill.auto.space) in
    let k = c.in_err-fill-2.ensures.failed in
    let short : k.0 ≤ length c.fill-2.new.space = omega (arith, k.1) in
    let fewer = length-take-le k.0 c.fill-2.new.space short in
    let first : Consumes (g.R.Read.remaining c.args.input.now) (g.R.Read.remaining c.fill.new.input) c.fill.new.space = rw c.if-not-branch.false at c.in_ok-fill.ensures.filled in
    let none = not_read (length c.args.space.now) _ _ _ c.fill.new.space _ c.fill.auto.space (omega (arith, n, c.in-Some.ensures.lookup, k.1, fewer)) first k.2 in
    let p = err_from_is_err_and c.from_residual-in_err-fill-2.result c.from_residual-in_err-fill-2.ensures.1 in
    rw p.1 none

pub returns-clause-next : goal.returns-clause-next
returns-clause-next g c =
    let n : c.from_le_bytes.result ≡ number_of c.fill.new.space = c.from_le_bytes.ensures ∙ sym (of_four _ c.fill.auto.space) in
    rw c.then_some.ensures (told _ _ _ _ c.fill.new.space _ (length c.in-Some.frame.now) c.fill.auto.space (omega (arith, n, c.in-Some.ensures.lookup)) (search rules) (omega (arith, c.in-Some.ensures.lookup)) (rw c.if-not-branch.false at c.in_ok-fill.ensures.filled) c.in_ok-fill-2.field-0 c.in_ok-fill-2.ensures.filled)
