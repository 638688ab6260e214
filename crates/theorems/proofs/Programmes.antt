-- The three phases together, of a table whose candidates fit alone: each ends because there is no next, and keeps what the one before left. What
-- phases 2 and 3 need of phase 1 is what its programme is like, however it came about.
use Prim.Native.Nat.{ℕ, ◌+◌, ◌*◌, ◌≤◌, ◌<◌}
use mathlib.Core.Path.{◌≡◌}
use mathlib.Core.Bool.{Bool, true}
use native.Mathlib.Omega.{arith}
use mathlib.Core.List.{List}
use Rattle.base.specs.Choice.{pick}
use Rattle.base.specs.Over.{sum}
use Rattle.base.specs.Search.{Run}
use Rattle.rules.specs.Table.{Table}
use Rattle.rules.specs.Phases.{total, within, respects}
use Rattle.rules.specs.Plan.{reduced, filled, improved}
use Rattle.rules.specs.Demands.{Finished}
use Rattle.laws.specs.Tables.{FitAlone, Allowed, OfCandidates}
use Rattle.laws.proofs.Leaders.{LowerLeaders}
use Rattle.laws.proofs.Gives.{PastNothing, gives_candidates, candidates_numbers, gives_past}
use Rattle.laws.proofs.PickUps.{Room}
use Rattle.theorems.proofs.Phase1.{phase1_allowed, phase1_within, phase1_few, phase1_fewer, phase1_respects, phase1_past}
use Rattle.theorems.proofs.Phase2.{phase2_gives, phase2_ends, phase2_within, phase2_respects, phase2_rises}
use Rattle.theorems.proofs.Phase3.{phase3_gives, phase3_ends, phase3_within, phase3_respects, phase3_few}

-- a run of phase 1 that phases 2 and 3 can go on from
pub record Begins (t : Table) (leader : ℕ → ℕ) (r : Run (List ℕ)) : Type 0 where
  -- each segment has a candidate or nothing,
  pub candidates : OfCandidates t r.last
  -- every limit holds,
  pub within : within t r.last ≡ true
  -- leaders are respected,
  pub respects : LowerLeaders leader t.segments → respects leader t.segments r.last ≡ true
  -- and places past the segments hold nothing, where the table has no benefit there
  pub past : ((i j : ℕ) → t.segments < i → t.benefit i j ≡ 0) → PastNothing t r.last

module _ (t : Table) (leader : ℕ → ℕ) (fit : FitAlone t) where
  -- so does the table's own
  pub reduced_begins : Begins t leader (reduced t leader)
  unfolding reduced
  reduced_begins =
      record {
        candidates = phase1_allowed t leader fit;
        within = phase1_within t leader fit;
        respects = phase1_respects t leader fit;
        past = phase1_past t leader fit;
      }

  pub few_steps : (reduced t leader).count ≤ t.segments * t.strategies
  unfolding reduced
  few_steps = phase1_few t leader fit

  pub fewer_steps :
      (none_there : ℕ → Bool) → ((i j : ℕ) → 1 ≤ i → i ≤ t.segments → none_there i ≡ true → Allowed t i j → j ≡ 0)
      → (reduced t leader).count ≤ sum t.segments (λ i. pick (none_there i) 0 t.strategies)
  unfolding reduced
  fewer_steps = phase1_fewer t leader fit

  module _ (r : Run (List ℕ)) (begins : Begins t leader r) where
    room : Room t r.last
    room = omega (arith, begins.candidates.places, fit.segments)

    filled_candidates : OfCandidates t (filled t leader r).last
    unfolding filled
    filled_candidates = gives_candidates t r.last (filled t leader r).last (phase2_gives t leader r.last) begins.candidates

    -- each segment has a candidate or nothing,
    pub improved_candidates : OfCandidates t (improved t leader r).last
    unfolding improved
    improved_candidates = gives_candidates t (filled t leader r).last (improved t leader r).last (phase3_gives t leader (filled t leader r).last) filled_candidates

    -- every limit holds,
    pub improved_within : within t (improved t leader r).last ≡ true
    unfolding improved filled
    improved_within = phase3_within t leader (filled t leader r).last (phase2_within t leader r.last begins.within)

    -- leaders are respected,
    pub improved_respects : LowerLeaders leader t.segments → respects leader t.segments (improved t leader r).last ≡ true
    unfolding improved filled
    improved_respects lower =
        phase3_respects t leader (filled t leader r).last (phase2_respects t leader r.last room (begins.respects lower))

    -- and each phase has come to its end
    pub finished : Finished t leader r
    unfolding filled improved
    finished =
        record {
          steps = begins.within;
          pickups = phase2_ends t leader r.last room;
          changes = phase3_ends t leader (filled t leader r).last fit (candidates_numbers t (filled t leader r).last filled_candidates);
        }

    pub few_changes : (improved t leader r).count + total t (filled t leader r).last ≤ total t (improved t leader r).last
    unfolding improved
    few_changes = phase3_few t leader (filled t leader r).last fit (candidates_numbers t (filled t leader r).last filled_candidates)

    -- phases 2 and 3 do not lower the total
    pub total_rises : total t r.last ≤ total t (improved t leader r).last
    unfolding filled
    total_rises = omega (arith, phase2_rises t leader r.last fit room, few_changes)

    -- places past the segments hold nothing, where the table has no benefit there
    pub improved_past : ((i j : ℕ) → t.segments < i → t.benefit i j ≡ 0) → PastNothing t (improved t leader r).last
    unfolding improved filled
    improved_past no_benefit =
        gives_past t (filled t leader r).last (improved t leader r).last (phase3_gives t leader (filled t leader r).last)
        (gives_past t r.last (filled t leader r).last (phase2_gives t leader r.last) (begins.past no_benefit))
