-- `office::fresh` meets its contract.
use Rattle.rules.specs.Offices.{fresh_held}
use Rattle.demands.proofs.EveryOffice.{every_office}
use Rattle.demands.proofs.EveryOfficeAnswer.{every_office_answer, every_roughness}
use Rattle.office.proofs.fresh.Goals as goal

pub returns : goal.returns
unfolding fresh_held
returns c = record { start = record { unit = c.fresh.ensures.start; window = c.start.ensures.start }; settled = every_office_answer; points = every_roughness; claim = every_office }
