-- Document 01, "The three phases" and "The ceiling" together: what a show gives. This is the ordinary plan; Blocks has that of document 02,
-- request 13.
use Rattle.std.specs.Prelude.{List, replicate, ℕ}
use Rattle.base.specs.Search.{Run}
use Rattle.rules.specs.District.{most_segments}
use Rattle.rules.specs.Table.{Table}
use Rattle.rules.specs.Phases.{total, start, phase1, phase2, phase3}
use Rattle.rules.specs.Ceiling.{ceiling}
use Rattle.rules.specs.declared.Programme.{Programme}

module _ (t : Table) (leader : ℕ → ℕ) where
  unfoldable pub reduced : Run (List ℕ)
  reduced = phase1 t leader (start t leader)

  -- phases 2 and 3 each go on from where the one before ended; r is how phase 1 went
  module _ (r : Run (List ℕ)) where
    unfoldable pub filled : Run (List ℕ)
    filled = phase2 t leader r.last

    unfoldable pub improved : Run (List ℕ)
    improved = phase3 t leader filled.last

    unfoldable pub programme_from : Programme
    programme_from =
        record {
          strategies = improved.last;
          total = total t improved.last;
          after_pickups = total t filled.last;
          ceiling = ceiling t;
          steps = r.count;
          pickups = filled.count;
          changes = improved.count;
        }

  -- the programme in which the three phases end
  abbrev pub ended : List ℕ
  ended = (improved reduced).last

  unfoldable pub programme_of : Programme
  programme_of = programme_from reduced

unfoldable pub no_programme : Programme
no_programme =
    record {
      strategies = replicate most_segments 0;
      total = 0;
      after_pickups = 0;
      ceiling = 0;
      steps = 0;
      pickups = 0;
      changes = 0;
    }
