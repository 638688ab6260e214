-- Request 4, of a unit in any state: a question that nothing refuses has a reason for its answer, any other its number; one of the first eight
-- reasons is the first that holds.
use Prim.Native.Nat.{ℕ, zero, suc}
use mathlib.Core.Path.{◌≡◌, sym}
use mathlib.Core.Bool.{Bool, true, false}
use Rattle.std.specs.Prelude.{Option, None, Some}
use Rattle.base.specs.Choice.{pick}
use Rattle.rules.specs.File.{in_range}
use Rattle.rules.specs.Reasons.{or_last, hindrance, reason_for}
use Rattle.rules.specs.Calls.{bar_refusal, explained, why_of}
use Rattle.rules.specs.declared.Unit.{Unit}
use Rattle.rules.specs.declared.Reason.{Reason}
use Rattle.rules.specs.declared.Reason.TheVariants.{NoGreaterTotal}
use Rattle.theorems.specs.Reasons.{EveryReason}
use Rattle.theorems.proofs.Reasons.{explained_some}
use Rattle.rules.specs.Answers.{answer_of, Accepted, Refused}

module _ (u : Unit) (i j : ℕ) where
  pub why_accepted : bar_refusal u.district i j ≡ 0 → why_of u i j ≡ Accepted (reason_for u.district u.programme.strategies i j)
  unfolding why_of explained answer_of
  why_accepted e = rw e

  why_refused : (n : ℕ) → bar_refusal u.district i j ≡ suc n → why_of u i j ≡ Refused (suc n)
  unfolding why_of explained answer_of
  why_refused n e = rw e

-- a reason for an answer is the one that the search came to
named : (n : ℕ) (q r : Reason) → explained n q ≡ Accepted r → q ≡ r
unfolding explained answer_of
named zero q r e = cc
named (suc n) q r e = cc

-- which found it, unless it is the last
searched : (t : Bool) (o : Option Reason) (r : Reason) → or_last (pick t o None) ≡ r → ¬ (r ≡ NoGreaterTotal) → o ≡ Some r
searched false o r e other = absurd (other (sym e))
searched true None r e other = absurd (other (sym e))
searched true (Some q) r e other = rw e

pub every_reason : EveryReason
unfolding why_of reason_for
every_reason u i j =
    record {
      accepted = why_accepted u i j;
      refused = why_refused u i j;
      first =
          λ r e other.
          let it = named (bar_refusal u.district i j) (reason_for u.district u.programme.strategies i j) r e in
          explained_some u.district u.programme.strategies i j r (searched (in_range u.district) (hindrance u.district u.programme.strategies i j) r it other);
    }
