-- What the cells of a line say.
use Rattle.std.specs.Prelude.{ℕ, ◌+◌, ◌≡◌, List, [], ◌∷◌, leb}
use Rattle.base.specs.Choice.{pick}
use Rattle.base.specs.Text.{most_digits, decimal}
use Rattle.rules.specs.District.{District, resources_of}
use Rattle.rules.specs.Page.{miles}
use Rattle.pages.specs.declared.cells.Cell.{Cell}
use Rattle.pages.specs.declared.cells.Cell.TheVariants.{Blank, Number, Miles}

unfoldable pub text_of : Cell → List ℕ
text_of Blank = []
text_of (Number n) = decimal n
text_of (Miles n) = miles n

-- a number of the most digits, with a point and two further ones
abbrev pub longest_text : ℕ
longest_text = most_digits + 3

unfoldable pub texts : List Cell → List (List ℕ)
texts [] = []
texts (c ∷ cs) = text_of c ∷ texts cs

-- the cell of resource r, with f its number
abbrev pub Shows : District → (ℕ → ℕ) → ℕ → Cell → Type 0
Shows d f r cell = text_of cell ≡ pick (leb r (resources_of d)) (decimal (f r)) []
