-- What is answered: a refusal, or the reason of a district in range, or of any other value.
use Prim.Native.Nat.{ℕ, zero, suc, ◌≤◌}
use mathlib.Core.Path.{◌≡◌, refl}
use mathlib.Core.Bool.{true, false}
use mathlib.Core.List.{List}
use native.Mathlib.Omega.{arith}
use Rattle.rules.specs.District.{District}
use Rattle.rules.specs.File.{in_range}
use Rattle.rules.specs.Reasons.{or_last, hindrance, reason_for}
use Rattle.rules.specs.Calls.{explained}
use Rattle.rules.specs.declared.refusals.Refusal.{Refusal}
use Rattle.rules.specs.declared.Reason.{Reason}
use Rattle.rules.specs.declared.Reason.TheVariants.{NoGreaterTotal}
use Rattle.rules.specs.Answers.{Accepted, Refused, refusal_number, answer_of}
use Rattle.rules.proofs.RefusalNumbers.{numbered}

refused_is : (n : ℕ) (q : Reason) → 1 ≤ n → Refused n ≡ explained n q
unfolding explained answer_of
refused_is zero q some = absurd (omega arith)
refused_is (suc n) q some = refl

pub refused_as : (refusal : Refusal) {n : ℕ} (q : Reason) → refusal_number refusal ≡ n → Refused (refusal_number refusal) ≡ explained n q
refused_as refusal q e = rw (← e) (refused_is (refusal_number refusal) q (numbered refusal))

pub because : {n : ℕ} {q r : Reason} → 0 ≡ n → r ≡ q → Accepted r ≡ explained n q
unfolding explained answer_of
because z f = rw (← z, f)

module _ (d : District) (c : List ℕ) (i j : ℕ) where
  pub out_of_range : in_range d ≡ false → NoGreaterTotal ≡ reason_for d c i j
  unfolding reason_for
  out_of_range e = rw e

  pub in_its_range : {r : Reason} → in_range d ≡ true → r ≡ or_last (hindrance d c i j) → r ≡ reason_for d c i j
  unfolding reason_for
  in_its_range e f = rw e f
