-- What the search is lent: the table of which it has benefits and down-shares, and a new price for one of its resources.
use Rattle.std.specs.Prelude.{ℕ, ◌-◌, List, set}
use Rattle.rules.specs.Table.{Table}
use Rattle.ceiling.specs.declared.candidates.Candidates.{Candidates}
use Rattle.ceiling.specs.declared.candidates.NewPrice.{NewPrice}
use Rattle.ceiling.specs.Prices.{priced_table, Costs}

abbrev pub priced_in : Candidates → Table
priced_in t = priced_table t.size t.benefits.now t.downs.now

-- the prices with the new one among them
abbrev pub repriced : List ℕ → NewPrice → List ℕ
repriced prices new = set prices (new.resource - 1) new.price

abbrev pub CostsAt : Candidates → List ℕ → List ℕ → ℕ → List ℕ → Type 0
CostsAt t new old e c = Costs t.size t.benefits.now t.downs.now new old e c
