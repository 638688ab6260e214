-- `script::row` meets its contract.
use Rattle.std.proofs.Common.{◌≡◌, ◌∙◌, ◌/◌, min, length, ap, arith}
use Rattle.base.specs.Over.{listed_from}
use Rattle.script.specs.Script.{longest_row, row_number, row_in}
use Rattle.script.proofs.Numbers.{listed_none, listed_more, listed_count}
use Rattle.script.proofs.row.Goals as goal

pub loop-n-init : goal.loop-n-init
loop-n-init c = c.new-row.ensures ∙ listed_none (row_number c.args.body.now)

pub push-requires : goal.push-requires
push-requires c =
    let count = listed_count _ _ _ c.loop-n.invariant in
    (omega arith, omega (arith, count, c.loop-n-test.true, c.min-n-end.ensures))

pub loop-n-preserved : goal.loop-n-preserved
loop-n-preserved c = c.push.ensures.items ∙ listed_more _ _ _ _ c.loop-n.invariant c.number.ensures

pub returns : goal.returns
unfolding row_in
returns c =
    let body = c.args.body.now in
    let all : c.loop-n.n ≡ min (length body / 4) longest_row = omega (arith, c.loop-n-test.false, c.min-n-end.ensures) in
    c.loop-n.invariant ∙ ap (λ n. listed_from n 0 (row_number body)) all
