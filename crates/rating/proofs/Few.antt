-- A district in the file's ranges has few of everything.
use native.Mathlib.Omega.{arith}
use Rattle.rules.specs.District.{District}
use Rattle.laws.specs.Counts.{Few}
use Rattle.grammar.specs.Ranges.{Ranges}

pub few_of : (d : District) → Ranges d → Few d
few_of d ok =
    record {
      places = ok.places;
      segments = ok.segments;
      strategies = ok.strategies;
      years = ok.years;
      distresses = ok.distresses;
      resources = ok.resources;
      pavement = λ i l h. ok.pavement i l (omega (arith, ok.segments));
    }
