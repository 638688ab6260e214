-- What the programs up and down print.
use Rattle.std.specs.Prelude.{ℕ, ◌≡◌, List}
use Rattle.base.specs.Text.{Put}
use Rattle.listing.specs.Listing.{refusal, or_refusal}
use Rattle.rules.specs.Conversions.{up_refusal, up_file, down_refusal, down_file}
use Rattle.rules.specs.Answers.{Answer, Accepted, Refused}

-- the new file where nothing refuses the old one, else the refusal
unfoldable pub up_printed : List ℕ → List ℕ
up_printed file = or_refusal (up_refusal file) (up_file file)

unfoldable pub down_printed : List ℕ → List ℕ
down_printed file = or_refusal (down_refusal file) (down_file file)

-- n bytes of a buffer are to be printed: those that an answer counts, or a refusal, which is put there
unfoldable pub Told : Answer → List ℕ → List ℕ → ℕ → Type 0
Told (Accepted m) old new n = (n ≡ m) × (new ≡ old)
Told (Refused m) old new n = Put (refusal m) old new n
