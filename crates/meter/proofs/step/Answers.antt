-- `meter::step` meets its contract.
use Rattle.meter.proofs.Windows.{index_of, marker_of, lost_of}
use Rattle.meter.proofs.step.Goals as goal

pub returns-in-Index : goal.returns-in-Index
returns-in-Index c = λ s e g. index_of _ _ _ c.index.ensures s (cc)

pub returns-in-Marker : goal.returns-in-Marker
returns-in-Marker c = λ s e g. marker_of _ _ _ _ c.empty.ensures s (cc) g

pub returns-in-Lost : goal.returns-in-Lost
returns-in-Lost c = λ s e g. lost_of _ s (cc)
