-- `phase3::look::Look::first_with` meets its contract: no pair that the loop passed counts, in this programme or any other that is tight.
use mathlib.Core.Path.{sym}
use borrow.Author.Count.{below_none, below_more}
use native.Mathlib.Omega.{arith}
use Rattle.phase3.proofs.ChangeSearch.{of_found}
use Rattle.phase3.proofs.Remembered.{searching_lower, passed_lower, searching_next, passed_with, alike, unused_holds}
use Rattle.phase3.proofs.look.Look.first_with.Goals as goal

pub returns-then-not-with_may_count : goal.returns-then-not-with_may_count
returns-then-not-with_may_count c =
    let t = c.with_may_count.ensures in
    searching_next _ _ _ _ _ (searching_lower _ _ _ _ _ t.lower t.tight c.requires.1) (t.passed c.if-not-with_may_count.true _)

pub loop-b-init : goal.loop-b-init
loop-b-init c =
    let t = c.with_may_count.ensures in
    (searching_lower _ _ _ _ _ t.lower t.tight c.requires.1, below_none _)

pub loop-b-preserved : goal.loop-b-preserved
loop-b-preserved c =
    let q = c.counts.ensures in
    let l = c.loop-b in (
      searching_lower _ _ _ _ _ q.lower q.tight l.invariant.0,
      below_more _ _ (λ v lv. passed_lower _ _ _ _ _ _ v q.lower (l.invariant.1 v lv)) (q.passed c.if-counts.false),
    )

pub returns-then-counts : goal.returns-then-counts
returns-then-counts c =
    let q = c.counts.ensures in
    let l = c.loop-b in
    let s = c.args.self.now.setting in
    let found = q.counted c.if-counts.true in
    let g = searching_lower _ _ _ _ _ q.lower q.tight l.invariant.0 in (
      rw c.change.ensures (record {
        is = sym (of_found _ _ _ _ _ _ _ s.above (omega arith) (λ v lv. g.before v lv _ (alike _ _ _ _ _ g)) (omega arith)
            (λ v lv. passed_lower _ _ _ _ _ _ v q.lower (l.invariant.1 v lv) _ (alike _ _ _ _ _ g))
            found.0);
        inside = ((s.low, omega (arith, s.above, s.high), omega arith), (omega (arith, s.low, s.above), s.high, omega arith), s.above);
      }),
      unused_holds _ _ _ _ _ g found.1,
    )

pub returns-else-counts : goal.returns-else-counts
returns-else-counts c =
    let q = c.counts.ensures in
    let l = c.loop-b in
    searching_next _ _ _ _ _ (searching_lower _ _ _ _ _ q.lower q.tight l.invariant.0)
    (passed_with _ _ _ _ _ _ _ (λ v lv. below_more _ _ (λ v lv. passed_lower _ _ _ _ _ _ v q.lower (l.invariant.1 v lv)) (q.passed c.if-counts.false) v (omega arith)))

pub returns-else-not-with_may_count : goal.returns-else-not-with_may_count
returns-else-not-with_may_count c =
    let l = c.loop-b in
    searching_next _ _ _ _ _ l.invariant.0 (passed_with _ _ _ _ _ _ _ (λ v lv. l.invariant.1 v (omega arith)))
