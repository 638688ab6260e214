-- What an offer is by the rules.
use Rattle.std.specs.Prelude.{ℕ, zero, suc, List, Option, None, Some}
use Rattle.base.specs.Choice.{pick}
use Rattle.rules.specs.Table.{Table}
use Rattle.rules.specs.Phases.{offer, offer_benefit, vacant, best_offer}
use Rattle.phase2.specs.declared.Offer.{Offer}

-- the best that segment i could take beside what the others have
abbrev pub offer_by : Table → List ℕ → ℕ → Offer
offer_by t c i = record { takes = record { 0 = i; 1 = offer t c i }; benefit = offer_benefit t c i }

-- none where it has something, or may have nothing, or could take nothing
abbrev pub offer_at : Table → (ℕ → ℕ) → List ℕ → ℕ → Option Offer
offer_at t leader c i = pick (vacant t leader c i) (Some (offer_by t c i)) None

-- the offer of the segment that a number names; 0 names none
abbrev pub offer_in : Table → List ℕ → ℕ → Option Offer
offer_in t c zero = None
offer_in t c (suc i) = Some (offer_by t c (suc i))

-- the offer to pick up
abbrev pub best_in : Table → (ℕ → ℕ) → List ℕ → Option Offer
best_in t leader c = offer_in t c (best_offer t leader c)
