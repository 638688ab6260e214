-- What tests that refuse, one after another, say of the rules' number.
use Prim.Native.Nat.{ℕ}
use mathlib.Core.Path.{◌≡◌, ap, ◌∙◌}
use mathlib.Core.Bool.{Bool, true, false}
use Rattle.std.specs.Prelude.{Result, Ok, Err}
use Rattle.std.specs.Result.{IsErrAnd}
use Rattle.base.specs.Choice.{pick}
use Rattle.rules.specs.Answers.{refusal_in, refusal_number, unless}
use Rattle.rules.specs.declared.refusals.Refusal.{Refusal}

-- a refusal that is handed on
pub handed : {T : Type 0} (r : Result T Refusal) (e : Refusal) (n : ℕ) → IsErrAnd r (λ x. x ≡ e) → refusal_number e ≡ n → refusal_in r ≡ n
handed (Ok x) e n h k = absurd h
handed (Err x) e n h k = ap refusal_number h ∙ k

-- by a test that fails,
pub refused : (t : Bool) (n e : Refusal) (rest : ℕ) → Err e ≡ pick t (Ok (tt {0})) (Err n) → refusal_number e ≡ unless t (refusal_number n) rest
refused true n e rest h = cc
refused false n e rest h = cc

-- one that holds, behind which others come,
pub holds : (t : Bool) (n : Refusal) (u : Unit {0}) → Ok u ≡ pick t (Ok tt) (Err n) → t ≡ true
holds true n u h = cc
holds false n u h = cc

pub behind : (t : Bool) (n : Refusal) (u : Unit {0}) (k m rest : ℕ) → Ok u ≡ pick t (Ok tt) (Err n) → k ≡ rest → k ≡ unless t m rest
behind t n u k m rest h e = rw (holds t n u h) e

-- and the last one, which the rules may put otherwise
pub last : (t asked : Bool) (n : Refusal) (r : Result (Unit {0}) Refusal) → t ≡ asked → r ≡ pick t (Ok tt) (Err n) → refusal_in r ≡ unless asked (refusal_number n) 0
last true asked n r e h = rw (h, ← e)
last false asked n r e h = rw (h, ← e)
