-- `pages::cells::put_miles` meets its contract: the miles, then the point and two digits.
use Rattle.std.proofs.Common.{◌≡◌, refl, ℕ, ◌≤◌, List, ◌++◌, length, arith, length-append}
use Rattle.base.specs.Text.{text, decimal}
use Rattle.base.proofs.Text.{decimal_few}
use Rattle.listing.proofs.Pieces.{put_two}
use Rattle.rules.specs.Page.{miles}
use Rattle.pages.specs.Cells.{longest_text}
use Rattle.pages.proofs.cells.put_miles.Goals as goal

room : (n : ℕ) (end : List ℕ) {out : ℕ} → length end ≡ 3 → longest_text ≤ out → length (decimal n ++ end) ≤ out
room n end e h = omega (arith, length-append (decimal n) end, decimal_few n)

pub returns : goal.returns
unfolding miles text
returns c = put_two _ _ (room _ _ refl c.requires) c.put_number-at.ensures.put c.put.ensures
