-- `command::read_blocks` meets its contract.
use Rattle.std.proofs.Common.{ap, length, arith}
use borrow.Author.Tests.{true-eqb, false-eqb}
use Rattle.command.proofs.Blocks.{starts, ended, stroke_read, no_stroke, number_read, no_number, number_takes}
use Rattle.command.proofs.read_blocks.Goals as goal

pub loop-due-init : goal.loop-due-init
loop-due-init c = rw c.new-row.ensures (starts _ _)

pub returns-then-is_empty : goal.returns-then-is_empty
returns-then-is_empty c = ended _ _ _ _ (true-eqb _ _ c.if-is_empty.ensures) (rw c.if-due-eq0.true at c.loop-due.invariant)

pub returns-in_err-rest : goal.returns-in_err-rest
returns-in_err-rest c = rw c.from_residual.ensures (no_stroke _ _ _ _ (false-eqb _ _ c.if-is_empty.ensures) c.in_err-rest.ensures (rw c.if-due-eq0.true at c.loop-due.invariant))

pub loop-due-preserved-then-due-eq0 : goal.loop-due-preserved-then-due-eq0
loop-due-preserved-then-due-eq0 c = let r = c.in_ok-rest.ensures in stroke_read _ _ _ _ (false-eqb _ _ c.if-is_empty.ensures) r.0 _ r.1 (rw c.if-due-eq0.true at c.loop-due.invariant)

pub returns-in_err-number : goal.returns-in_err-number
returns-in_err-number c = rw c.from_residual-in_err-number.ensures (no_number _ _ _ _ _ c.in_err-number.ensures c.if-due-eq0.false c.loop-due.invariant)

pub push-requires : goal.push-requires
push-requires c =
    let r = c.in_ok-number.ensures in
    let takes = number_takes _ _ r.0 in
    (omega arith, omega (arith, takes, c.loop-due.invariant.room, c.requires))

pub loop-due-smaller : goal.loop-due-smaller
loop-due-smaller c =
    let r = c.in_ok-number.ensures in
    let takes = number_takes _ _ r.0 in
    omega (arith, takes, ap length r.1)

pub loop-due-preserved : goal.loop-due-preserved
loop-due-preserved c =
    let r = c.in_ok-number.ensures in
    rw c.push.ensures.items (number_read _ _ _ _ _ _ _ r.0 r.1 c.if-due-eq0.false c.loop-due.invariant)
