-- What request 4 of document 02 promises, with the reason of request 8: the reason that is named is the first of those that hold, and after every
-- list of calls one of the nine does.
use Rattle.std.specs.Prelude.{ℕ, suc, ◌≡◌, refl, Bool, true, false, ◌&&◌, ◌||◌, List, [], ◌∷◌, map, ltb, eqb}
use Rattle.base.specs.Over.{between}
use Rattle.rules.specs.District.{District, years_of, distresses_of, resources_of}
use Rattle.rules.specs.Reasons.{told, holds, reason_for}
use Rattle.rules.specs.Calls.{bar_refusal, why_of, show_of}
use Rattle.rules.specs.Lists.{Call, district_after, unit_after}
use Rattle.rules.specs.declared.Unit.{Unit}
use Rattle.rules.specs.declared.Reason.{Reason}
use Rattle.rules.specs.declared.Reason.TheVariants.{InProgramme, Barred, MinimumMissed, OverallMissed, NoBenefit, LeaderHasNothing, OverAlone, OverBeside, NoGreaterTotal}
use Rattle.rules.specs.Answers.{Accepted, Refused}

-- the district has what the reason names: distress type and year, or the resource
unfoldable pub names : District → Reason → Bool
names d InProgramme = true
names d Barred = true
names d (MinimumMissed k t) = between 1 (distresses_of d) k && between 1 (years_of d) t
names d OverallMissed = true
names d NoBenefit = true
names d LeaderHasNothing = true
names d (OverAlone r) = between 1 (resources_of d) r
names d (OverBeside r) = between 1 (resources_of d) r
names d NoGreaterTotal = true

-- the first list is less at the first place where the two differ
unfoldable pub before : List ℕ → List ℕ → Bool
before [] ys = false
before (x ∷ xs) [] = false
before (x ∷ xs) (y ∷ ys) = ltb x y || (eqb x y && before xs ys)

-- the reason for strategy j on segment i under the programme c: it holds, and of those before it, by number, then by distress type and year
-- or by resource, none does
pub record Explained (d : District) (c : List ℕ) (i j : ℕ) (reason : Reason) : Type 0 where
  pub named : names d reason ≡ true
  pub holding : holds d c i j reason ≡ true
  pub earlier : (q : Reason) → names d q ≡ true → before (told q) (told reason) ≡ true → holds d c i j q ≡ false

-- of a unit in any state and any numbers
pub record Asked (u : Unit) (i j : ℕ) : Type 0 where
  -- a question that nothing refuses has a reason for its answer, any other its number;
  pub accepted : bar_refusal u.district i j ≡ 0 → why_of u i j ≡ Accepted (reason_for u.district u.programme.strategies i j)
  pub refused : (n : ℕ) → bar_refusal u.district i j ≡ suc n → why_of u i j ≡ Refused (suc n)
  -- one of the first eight is the first that holds
  pub first :
      (reason : Reason) → why_of u i j ≡ Accepted reason → ¬ (reason ≡ NoGreaterTotal)
      → Explained u.district u.programme.strategies i j reason

abbrev pub EveryReason : Type 0
EveryReason = (u : Unit) (i j : ℕ) → Asked u i j

-- after any list of calls the answer is the first of the nine that holds
pub record Answered (cs : List Call) (i j : ℕ) : Type 0 where
  pub reason : Reason
  pub answer : why_of (unit_after cs) i j ≡ Accepted reason
  pub explained : Explained (district_after cs) (show_of (unit_after cs)).strategies i j reason

-- for every segment and every strategy of the district there is one
abbrev pub OneHolds : Type 0
OneHolds = (cs : List Call) (i j : ℕ) → bar_refusal (district_after cs) i j ≡ 0 → Answered cs i j

-- computed: which reasons come before a minimum that is missed for distress type 2 in year 2
pub before_a_minimum :
    map (λ (q : Reason). before (told q) (told (MinimumMissed 2 2)))
    (Barred ∷ MinimumMissed 1 3 ∷ MinimumMissed 2 1 ∷ MinimumMissed 2 2 ∷ MinimumMissed 2 3 ∷ MinimumMissed 3 1 ∷ OverallMissed ∷ [])
    ≡ true ∷ true ∷ true ∷ false ∷ false ∷ false ∷ false ∷ []
unfolding before
before_a_minimum = refl
