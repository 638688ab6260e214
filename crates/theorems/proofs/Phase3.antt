-- Phase 3 ends because no change counts, after no more changes than the total rises by; leaders are respected as before.
use Prim.Native.Nat.{ℕ, ◌+◌, ◌-◌, ◌≤◌, ◌<◌}
use mathlib.Core.Path.{◌≡◌}
use mathlib.Core.Bool.{true}
use mathlib.Core.List.{List}
use Rattle.std.specs.Prelude.{None, Some}
use native.Mathlib.Omega.{arith}
use Rattle.base.proofs.Runs.{run_ends, run_count}
use Rattle.rules.specs.Table.{Table}
use Rattle.rules.specs.Phases.{total, within, bests, respects, change, phase3}
use Rattle.laws.specs.Tables.{FitAlone}
use Rattle.laws.proofs.Gives.{Gives, Numbers, gives_numbers}
use Rattle.laws.proofs.Changes.{change_some, change_rises, change_within, change_respects, total_le}
use Rattle.theorems.proofs.Searches.{run_gives, run_leads}

module _ (t : Table) (leader : ℕ → ℕ) (c : List ℕ) where
  pub phase3_gives : Gives t c (phase3 t leader c).last
  unfolding phase3
  phase3_gives = run_gives t (change t leader) (total t (bests t)) c (λ s e found. (change_some t leader s e found).gives)

  pub phase3_within : within t c ≡ true → within t (phase3 t leader c).last ≡ true
  unfolding phase3
  phase3_within = run_leads (change t leader) (total t (bests t)) c (λ s. within t s ≡ true) (change_within t leader)

  pub phase3_respects : respects leader t.segments c ≡ true → respects leader t.segments (phase3 t leader c).last ≡ true
  unfolding phase3
  phase3_respects = run_leads (change t leader) (total t (bests t)) c (λ s. respects leader t.segments s ≡ true) (change_respects t leader)

  module _ (fit : FitAlone t) (numbers : Numbers t c) where
    -- what is left up to the total of the best candidates
    abbrev left : List ℕ → ℕ
    left s = total t (bests t) - total t s

    keeps : (s e : List ℕ) → change t leader s ≡ Some e → Numbers t s → Numbers t e
    keeps s e found n = gives_numbers t s e (change_some t leader s e found).gives n

    falls : (s e : List ℕ) → change t leader s ≡ Some e → Numbers t s → left e < left s
    falls s e found n =
        omega (arith, change_rises t leader s e found, total_le t fit.segments fit.nothing_worth e (keeps s e found n))

    pub phase3_ends : change t leader (phase3 t leader c).last ≡ None
    unfolding phase3
    phase3_ends = run_ends (change t leader) (Numbers t) keeps left falls (total t (bests t)) c numbers (omega arith)

    pub phase3_few : (phase3 t leader c).count + total t c ≤ total t (phase3 t leader c).last
    unfolding phase3
    phase3_few =
        let last = gives_numbers t c (phase3 t leader c).last phase3_gives numbers in
        omega (
          arith,
          run_count (change t leader) (Numbers t) keeps left falls (total t (bests t)) c numbers,
          total_le t fit.segments fit.nothing_worth c numbers,
          total_le t fit.segments fit.nothing_worth (phase3 t leader c).last last,
        )
