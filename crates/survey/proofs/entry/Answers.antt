-- `survey::entry` meets its contract: no two stored blocks are equal, and an entry of a stored block is the entry of Table 1.
use mathlib.Core.Path.{refl}
use Rattle.base.specs.Over.{all}
use Rattle.rules.specs.Survey.{deduct_points}
use Rattle.survey.specs.declared.TheConstants.{DEDUCT}
use Rattle.survey.specs.Blocks.{stored_as, table_from}
use Rattle.survey.proofs.Stored.{apart_distinct, stored_entry}
use Rattle.survey.proofs.entry.Goals as goal

pub returns-clause-distinct : goal.returns-clause-distinct
unfolding all
returns-clause-distinct c = apart_distinct _ refl

pub returns-clause-map : goal.returns-clause-map
unfolding stored_as
returns-clause-map c = refl

pub returns-clause-table : goal.returns-clause-table
unfolding stored_as table_from deduct_points
returns-clause-table c = refl

pub returns-clause-entry : goal.returns-clause-entry
unfolding stored_as table_from deduct_points
returns-clause-entry c = stored_entry DEDUCT refl _ _ _ _ c.requires.0 c.from.ensures
