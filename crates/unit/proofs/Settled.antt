-- How a call that changes the unit settles: refused, the unit stays as it was; accepted, it holds the new district and choice.
use Rattle.std.proofs.Common.{◌≡◌, ℕ, suc, ◌-◌, arith}
use Rattle.rules.proofs.RefusalNumbers.{numbered}
use Rattle.rules.specs.Answers.{refusal_number, answer_of, accepting, Accepted, Refused}
use Rattle.rules.specs.Calls.{answered, unit_with}
use Rattle.rules.specs.District.{District}
use Rattle.rules.specs.declared.Choice.{Choice}
use Rattle.rules.specs.declared.Unit.{Unit}
use Rattle.rules.specs.declared.refusals.Refusal.{Refusal}

-- a refusal's number is not 0
pub not_none : (r : Refusal) → refusal_number r ≡ suc (refusal_number r - 1)
not_none r = omega (arith, numbered r)

pub refused :
    (u : Unit) (x : Choice) (d : District) (n : ℕ) (e : Refusal)
    → refusal_number e ≡ n → record { answer = Refused (refusal_number e); unit = u } ≡ answered u n x d
unfolding answered answer_of accepting
refused u x d n e is = rw (← is, not_none e)

pub accepted :
    (u : Unit) (x : Choice) (d : District) (n : ℕ) → 0 ≡ n → record { answer = Accepted 0; unit = unit_with x d } ≡ answered u n x d
unfolding answered answer_of accepting
accepted u x d n is = rw (← is)
