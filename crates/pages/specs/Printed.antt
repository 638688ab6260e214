-- What the programs print of a page.
use Rattle.std.specs.Prelude.{ℕ, ◌+◌, ◌*◌, List, Result, Ok, Err}
use Rattle.listing.specs.Listing.{refusal}
use Rattle.rules.specs.District.{most_segments}
use Rattle.rules.specs.Page.{page}
use Rattle.rules.specs.Answers.{Answer, Accepted, Refused, refusal_number}
use Rattle.rules.specs.declared.refusals.Refusal.{Refusal}
use Rattle.rules.specs.declared.Unit.{Unit}

-- the unit's own
unfoldable pub page_held : Unit → List ℕ
page_held u = page u.district u.programme

-- the answer to a load, with the page
unfoldable pub paged : Answer → Unit → List ℕ
paged (Accepted value) u = page_held u
paged (Refused n) u = refusal n

-- the same of the code's result, which has no unit where it is refused
abbrev pub loaded_page : Result Unit Refusal → List ℕ
loaded_page (Ok u) = page_held u
loaded_page (Err r) = refusal (refusal_number r)

-- 80 characters and a line feed
abbrev pub line_bytes : ℕ
line_bytes = 81

-- the most bytes of a page
abbrev pub longest_page : ℕ
longest_page = (most_segments + 3) * line_bytes
