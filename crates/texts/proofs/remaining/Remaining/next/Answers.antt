-- `Remaining::next` meets its contract.
use Rattle.std.proofs.Common.{◌+◌, ◌-◌, ◌≡◌, sym, ap, ◌∙◌, arith}
use Rattle.texts.specs.Words.{kept, parts, is_line_feed, lines_in, words_in, lines_from}
use Rattle.texts.proofs.Passed.{one_more, first_line, none_left, none_more, line_kept, passed_over}
use Rattle.texts.proofs.remaining.Remaining.next.Goals as goal
use Rattle.texts.proofs.remaining.Remaining.next.Goals.{After-of_line-read}

-- what the line that stands first says of those from it on
fewer : (c : After-of_line-read) → lines_in c.loop-line.bytes.now ≡ lines_in c.in-Some.following.now + 1
fewer c = one_more c.loop-line.number _ _ _ c.in-Some.ensures

first : (c : After-of_line-read) → let l = c.loop-line in lines_from l.number (parts is_line_feed l.bytes.now) ≡ kept l.number (words_in c.of_line-read.result.now) (lines_from (l.number + 1) (parts is_line_feed c.in-Some.following.now))
first c = let l = c.loop-line in first_line l.number _ _ _ c.in-Some.ensures ∙ ap (λ ws. kept l.number ws (lines_from (l.number + 1) (parts is_line_feed c.in-Some.following.now))) (sym c.of_line-read.ensures)

pub overflow_add-number : goal.overflow_add-number
overflow_add-number c = omega (arith, fewer c, c.loop-line.invariant.1, c.args.self.few)

pub invariant_of-result : goal.invariant_of-result
invariant_of-result c = record { few = omega (arith, fewer (goal.at.invariant_of-result c).After-of_line-read, c.loop-line.invariant.1, c.args.self.few) }

pub returns-then-is_some : goal.returns-then-is_some
returns-then-is_some c =
    let l = c.loop-line in
    let at = (goal.at.returns-then-is_some c).After-of_line-read in
    let same : l.number + 1 - 1 ≡ l.number = omega arith in
    rw same (
      l.invariant.0 ∙ first at ∙ line_kept (λ r. r.0.now) (λ r. words_in r.1.now) l.number _ _ _ c.next.ensures (sym c.is_some.ensures ∙ c.if-is_some.true),
      omega (arith, fewer at, l.invariant.1),
    )

pub loop-line-smaller : goal.loop-line-smaller
loop-line-smaller c = omega (arith, fewer (goal.at.loop-line-smaller c).After-of_line-read)

pub loop-line-preserved : goal.loop-line-preserved
loop-line-preserved c =
    let l = c.loop-line in
    let at = (goal.at.loop-line-preserved c).After-of_line-read in (
      l.invariant.0 ∙ first at ∙ passed_over (λ r. r.0.now) (λ r. words_in r.1.now) l.number _ _ _ c.next.ensures (sym c.is_some.ensures ∙ c.if-is_some.false),
      omega (arith, fewer at, l.invariant.1),
    )

-- no line is left
pub returns : goal.returns
returns c =
    let l = c.loop-line in (
      l.invariant.0 ∙ none_left l.number _ c.in_default.ensures,
      omega (arith, none_more l.number _ c.in_default.ensures, l.invariant.1),
    )
