use Prim.Native.Nat.{ℕ}
use mathlib.Core.Bool.{Bool}
use Rattle.base.proofs.Best.{Leads}
use Rattle.tables.specs.Arrays.{benefit_at}
use Rattle.phase1.specs.Reduce.{IsTest}
use Rattle.phase1.proofs.Candidates.{passing}
use Rattle.phase1.proofs.best_candidate.Given as goal

abbrev pub invariant-loop-j : goal.invariant-loop-j
invariant-loop-j g l =
    (p : ℕ → Bool) → IsTest l.fn.z.strategies (goal.F-post g l.passes) (benefit_at l.benefits.entries.now l.i) p
    → Leads (passing l.benefits.entries.now l.i p) (benefit_at l.benefits.entries.now l.i) l.j l.top l.most
