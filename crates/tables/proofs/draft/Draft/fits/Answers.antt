-- `tables::Draft::fits` meets its contract: the second segment goes from nothing to nothing.
use mathlib.Core.Path.{◌∙◌}
use Rattle.tables.proofs.Moves.{testable, one_fits}
use Rattle.tables.proofs.draft.Draft.fits.Goals as goal

pub room-requires-clause-testable : goal.room-requires-clause-testable
room-requires-clause-testable c = testable c.requires.running c.budgets-given.ensures.places

pub returns : goal.returns
returns c =
    λ b.
    c.room.ensures ∙ one_fits c.requires.running _ _ c.requires.inside.0 c.requires.inside.1 b _ c.budgets-given.ensures
