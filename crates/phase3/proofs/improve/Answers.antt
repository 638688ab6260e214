-- `phase3::improve` meets its contract: after so many changes the programme is the one that the search reaches, and the memory holds.
use mathlib.Core.Path.{refl, sym, subst, ◌∙◌}
use native.Mathlib.Omega.{arith}
use Rattle.phase3.proofs.ChangeSearch.{under_start, under_next, under_small, under_end}
use Rattle.tables.specs.declared.view.TableView.{TableView}
use Rattle.tables.specs.Views.{Drafted}
use Rattle.phase3.proofs.improve.Goals as goal

pub loop-next-init : goal.loop-next-init
loop-next-init c =
    let p = c.args.planning.now in
    (refl, under_start _ _ _ _ p.running, c.new-memory.ensures _ _ p.running.bounded.segments)

pub next_change-requires-clause-tops : goal.next_change-requires-clause-tops
next_change-requires-clause-tops c = rw c.loop-next.invariant.0 c.tops_of-tops.ensures

pub next_change-requires-clause-memory : goal.next_change-requires-clause-memory
next_change-requires-clause-memory c = let inv = c.loop-next.invariant in rw inv.0 inv.2

pub overflow_add-changes : goal.overflow_add-changes
overflow_add-changes c =
    let inv = c.loop-next.invariant in
    let small = under_small inv.1 (rw inv.0 at (sym c.in-Some.ensures.found.is)) c.args.planning.now.t.benefits.held in
    omega (arith, small)

pub loop-next-smaller : goal.loop-next-smaller
loop-next-smaller c =
    let inv = c.loop-next.invariant in
    let small = under_small inv.1 (rw inv.0 at (sym c.in-Some.ensures.found.is)) c.args.planning.now.t.benefits.held in
    omega (arith, small)

pub loop-next-preserved : goal.loop-next-preserved
loop-next-preserved c =
    let inv = c.loop-next.invariant in
    let same = c.make.ensures.same_table ∙ inv.0 in
    let found = c.in-Some.ensures.found in (
      same,
      under_next inv.1 (rw inv.0 at (sym found.is)) (subst (λ (t : TableView). Drafted t c.make.new.planning.draft) same c.make.new.planning.running) c.make.ensures.choice_after,
      rw inv.0 at c.in-Some.ensures.memory,
    )

pub returns-clause-choice_after : goal.returns-clause-choice_after
returns-clause-choice_after c = let inv = c.loop-next.invariant in (under_end inv.1 (rw inv.0 at (sym c.in_default.ensures.found.is))).0

pub returns-clause-value : goal.returns-clause-value
returns-clause-value c = let inv = c.loop-next.invariant in (under_end inv.1 (rw inv.0 at (sym c.in_default.ensures.found.is))).1
