-- What plan prints for the bytes that it reads.
use Rattle.std.specs.Prelude.{ℕ, List}
use Rattle.rules.specs.Calls.{fresh_unit, load_of}
use Rattle.listing.specs.Listing.{planned}

unfoldable pub printed : List ℕ → List ℕ
printed file = let r = load_of fresh_unit file in planned r.answer r.unit
