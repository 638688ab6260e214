-- What a search for a reason comes to, as the rules have it.
use Rattle.std.specs.Prelude.{ℕ, List, Option}
use Rattle.base.specs.Search.{or_else, first}
use Rattle.rules.specs.District.{District, resources_of}
use Rattle.rules.specs.Reasons.{given}
use Rattle.rules.specs.declared.Reason.{Reason}
use Rattle.rules.specs.declared.Reason.TheVariants.{LeaderHasNothing, OverAlone, OverBeside}

-- the search for a reason from the leader on
abbrev pub late_hindrance : District → List ℕ → ℕ → ℕ → Option Reason
late_hindrance d c i j =
    or_else (given d c i j LeaderHasNothing)
    (or_else (first (resources_of d) (λ r. given d c i j (OverAlone r)))
    (first (resources_of d) (λ r. given d c i j (OverBeside r))))
