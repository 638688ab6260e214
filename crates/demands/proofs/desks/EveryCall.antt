-- Each call goes on as ever.
use mathlib.Core.Path.{refl}
use Rattle.rules.specs.Desks.{desk_by, answer_to}
use Rattle.rules.specs.DeskDemands.{EveryCall}

pub every_call : EveryCall
unfolding desk_by answer_to
every_call d c = record { answer = refl; desk = refl }
