-- What show, why and the question for roughness tell, to an office or to none, and what they answer.
use Rattle.std.specs.Prelude.{ℕ, Option, None, Some}
use Rattle.rules.specs.Answers.{no_such_office, Answer, Accepted, Refused, Answered}
use Rattle.rules.specs.Calls.{show_of, why_of, Why}
use Rattle.rules.specs.Meter.{roughness_of}
use Rattle.rules.specs.Offices.{Held}
use Rattle.rules.specs.Stations.{Both, own}
use Rattle.rules.specs.declared.Programme.{Programme}
use Rattle.rules.specs.declared.Roughness.{Roughness}
use Rattle.rules.specs.declared.Which.{Which}

unfoldable pub shown_for : Option Which → Both Held → Answered Programme
shown_for None b = Refused no_such_office
shown_for (Some w) b = Accepted (show_of (own w b).unit)

unfoldable pub why_for : Option Which → Both Held → ℕ → ℕ → Why
why_for None b i j = Refused no_such_office
why_for (Some w) b i j = why_of (own w b).unit i j

unfoldable pub roughness_for : Option Which → Both Held → Answered Roughness
roughness_for None b = Refused no_such_office
roughness_for (Some w) b = roughness_of (own w b).heard

-- the answer, without the programme, the reason, or points and marker
unfoldable pub without_value : {A : Type 0} → Answered A → Answer
without_value (Accepted value) = Accepted 0
without_value (Refused n) = Refused n
