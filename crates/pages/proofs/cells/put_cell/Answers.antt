-- `pages::cells::put_cell` meets its contract.
use Rattle.std.proofs.Common.{ℕ, ◌+◌, ◌≤◌, List, ◌++◌, length, arith}
use Rattle.base.specs.Text.{text}
use Rattle.base.proofs.Text.{put_taken}
use Rattle.listing.proofs.Pieces.{second_fits, put_two}
use Rattle.rules.specs.Page.{right_aligned}
use Rattle.pages.proofs.Texts.{column_length}
use Rattle.pages.proofs.cells.put_cell.Goals as goal

room : (w : ℕ) (bs : List ℕ) {n : ℕ} → w + 1 ≤ n → length (right_aligned w bs ++ text " ") ≤ n
room w bs h = omega (arith, column_length w bs)

pub put-requires : goal.put-requires
unfolding text
put-requires c = second_fits _ (text " ") (room _ _ c.requires) c.put_aligned-at.ensures

pub returns : goal.returns
unfolding text
returns c = rw (← put_taken c.put_text-n.ensures) (put_two _ (text " ") (room _ _ c.requires) c.put_aligned-at.ensures c.put.ensures)
