-- The search for a reason, in its eight parts: what it finds holds, and nothing before that does; where it finds nothing, none of the eight holds.
use Prim.Native.Nat.{ℕ, zero, suc, ◌+◌, ◌-◌, ◌≤◌, ◌<◌}
use mathlib.Core.Path.{◌≡◌, refl, sym, ap, subst, ◌∙◌}
use mathlib.Core.Bool.{true, false, ◌&&◌}
use mathlib.Core.List.{List, [], ◌∷◌}
use mathlib.Core.Logic.{⊎_elim}
use Rattle.std.specs.Prelude.{Option, None, Some}
use native.Mathlib.Omega.{arith}
use borrow.Author.Tests.{ltb-true, eqb-true, lt-ltb}
use lib.Dec.{ltb, eqb}
use lib.ListN.{get_or, drop}
use Rattle.base.specs.Over.{between}
use Rattle.base.specs.Search.{or_else, first}
use Rattle.std.proofs.lemmas.Bool.{and_parts, or_cases}
use Rattle.base.proofs.Choice.{between_yes, between_in}
use Rattle.base.proofs.Search.{or_else_assoc, only_none, only_some, first_at, first_some, first_ended}
use Rattle.rules.specs.District.{District, years_of, distresses_of, resources_of}
use Rattle.rules.specs.Reasons.{told, holds, given, hindrance}
use Rattle.rules.specs.declared.Reason.{Reason}
use Rattle.rules.specs.declared.Reason.TheVariants.{InProgramme, Barred, MinimumMissed, OverallMissed, NoBenefit, LeaderHasNothing, OverAlone, OverBeside, NoGreaterTotal}
use Rattle.theorems.specs.Reasons.{names, before, Explained}

-- ---- the order of the reasons

abbrev pub number : Reason → ℕ
number q = get_or (told q) 0 0

abbrev values : Reason → List ℕ
values q = drop 1 (told q)

told_is : (q : Reason) → told q ≡ number q ∷ values q
told_is InProgramme = refl
told_is Barred = refl
told_is (MinimumMissed k t) = refl
told_is OverallMissed = refl
told_is NoBenefit = refl
told_is LeaderHasNothing = refl
told_is (OverAlone r) = refl
told_is (OverBeside r) = refl
told_is NoGreaterTotal = refl

number_le : (q : Reason) → number q ≤ 9
number_le InProgramme = omega arith
number_le Barred = omega arith
number_le (MinimumMissed k t) = omega arith
number_le OverallMissed = omega arith
number_le NoBenefit = omega arith
number_le LeaderHasNothing = omega arith
number_le (OverAlone r) = omega arith
number_le (OverBeside r) = omega arith
number_le NoGreaterTotal = omega arith

before_cases : {P : Type 0} (x y : ℕ) (xs ys : List ℕ) → before (x ∷ xs) (y ∷ ys) ≡ true → (x < y → P) → (x ≡ y → before xs ys ≡ true → P) → P
unfolding before
before_cases x y xs ys b less same =
    ⊎_elim
    (λ l. less (ltb-true x y l))
    (λ e. let w = and_parts (eqb x y) (before xs ys) e in same (eqb-true x y w.0) w.1)
    (or_cases (ltb x y) (eqb x y && before xs ys) b)

not_ended : {P : Type 0} (ys : List ℕ) → before [] ys ≡ true → P
unfolding before
not_ended ys b = cc

after : {P : Type 0} (n : ℕ) (xs : List ℕ) (r : Reason) → before (n ∷ xs) (told r) ≡ true → (n < number r → P)
    → (n ≡ number r → before xs (values r) ≡ true → P) → P
after n xs r b = before_cases n (number r) xs (values r) (subst (λ (l : List ℕ). before (n ∷ xs) l ≡ true) (told_is r) b)

-- a reason that names nothing comes before those of greater numbers alone
after_plain : (n : ℕ) (r : Reason) → before (n ∷ []) (told r) ≡ true → n < number r
after_plain n r b = after n [] r b (λ l. l) (λ e more. not_ended (values r) more)

-- the last comes after all others
before_last : (q : Reason) → number q ≤ 8 → before (told q) (told NoGreaterTotal) ≡ true
unfolding before
before_last q h = subst (λ (l : List ℕ). before l (9 ∷ []) ≡ true) (sym (told_is q)) (rw (lt-ltb (number q) 9 (omega arith)))

-- ---- the parts of the search

eight : {A : Type 0} (f : ℕ → Option A) → first 8 f ≡ or_else (f 1) (or_else (f 2) (or_else (f 3) (or_else (f 4) (or_else (f 5) (or_else (f 6) (or_else (f 7) (f 8)))))))
unfolding first
eight f = simp or_else_assoc

module _ (d : District) (c : List ℕ) (i j : ℕ) where
  -- what a part finds has its number, names what the district has, and holds
  record Found (n : ℕ) (r : Reason) : Type 0 where
    pub numbered : number r ≡ n
    pub named : names d r ≡ true
    pub holding : holds d c i j r ≡ true

  abbrev Finds : ℕ → Option Reason → Type 0
  Finds n o = (r : Reason) → o ≡ Some r → Found n r

  finds_plain : (q : Reason) → names d q ≡ true → Finds (number q) (given d c i j q)
  finds_plain q named r e =
      let w = only_some (holds d c i j q) e in
      subst (Found (number q)) w.1 (record { numbered = refl; named = named; holding = w.0 })

  finds_first : (n m : ℕ) (f : ℕ → Option Reason) → ((k : ℕ) → 1 ≤ k → k ≤ m → Finds n (f k)) → Finds n (first m f)
  finds_first n m f each r e = first_some (Found n) m f each r e

  -- of distress k, and of all
  abbrev minimum : ℕ → Option Reason
  minimum k = first (years_of d) (λ t. given d c i j (MinimumMissed k t))

  abbrev parts : List (Option Reason)
  parts =
      given d c i j InProgramme ∷ given d c i j Barred ∷ first (distresses_of d) minimum ∷ given d c i j OverallMissed ∷ given d c i j NoBenefit
      ∷ given d c i j LeaderHasNothing ∷ first (resources_of d) (λ r. given d c i j (OverAlone r)) ∷ first (resources_of d) (λ r. given d c i j (OverBeside r)) ∷ []

  abbrev part : ℕ → Option Reason
  part n = get_or parts (n - 1) None

  hindrance_is : hindrance d c i j ≡ first 8 part
  unfolding hindrance
  hindrance_is = sym (eight part)

  abbrev AllFind : ℕ → List (Option Reason) → Type 0
  AllFind n [] = Unit {0}
  AllFind n (o ∷ os) = Finds n o × AllFind (suc n) os

  all_find : (n : ℕ) (os : List (Option Reason)) → AllFind n os → (m : ℕ) → Finds (n + m) (get_or os m None)
  all_find n [] ok m r e = cc
  all_find n (o ∷ os) ok zero r e = let same : n ≡ n + 0 = omega arith in subst (λ (x : ℕ). Found x r) same (ok.0 r e)
  all_find n (o ∷ os) ok (suc m) r e =
      let same : suc n + m ≡ n + suc m = omega arith in subst (λ (x : ℕ). Found x r) same (all_find (suc n) os ok.1 m r e)

  parts_find : AllFind 1 parts
  unfolding names
  parts_find = (
    finds_plain InProgramme refl,
    (
      finds_plain Barred refl,
      (
        finds_first 3 (distresses_of d) minimum
            (λ k lk hk. finds_first 3 (years_of d) (λ t. given d c i j (MinimumMissed k t))
            (λ t lt ht. finds_plain (MinimumMissed k t) (rw (between_yes 1 (distresses_of d) k lk hk, between_yes 1 (years_of d) t lt ht)))),
        (
          finds_plain OverallMissed refl,
          (
            finds_plain NoBenefit refl,
            (
              finds_plain LeaderHasNothing refl,
              (
                finds_first 7 (resources_of d) (λ r. given d c i j (OverAlone r)) (λ r lr hr. finds_plain (OverAlone r) (between_yes 1 (resources_of d) r lr hr)),
                (finds_first 8 (resources_of d) (λ r. given d c i j (OverBeside r)) (λ r lr hr. finds_plain (OverBeside r) (between_yes 1 (resources_of d) r lr hr)), tt),
              ),
            ),
          ),
        ),
      ),
    ),
  )

  part_finds : (m : ℕ) → 1 ≤ m → Finds m (part m)
  part_finds m l r e = let same : 1 + (m - 1) ≡ m = omega arith in rw same at (all_find 1 parts parts_find (m - 1) r e)

  -- ---- a reason that the search comes to, the last where it finds none

  record Reached (r : Reason) : Type 0 where
    pub passed : (m : ℕ) → 1 ≤ m → m ≤ 8 → m < number r → part m ≡ None
    pub here : number r ≤ 8 → part (number r) ≡ Some r

  reached_none : hindrance d c i j ≡ None → Reached NoGreaterTotal
  reached_none e =
      record { passed = λ m l h less. first_at 8 part (sym hindrance_is ∙ e) m l h; here = λ h. absurd (omega arith) }

  reached_some : (r : Reason) → hindrance d c i j ≡ Some r → Reached r × Found (number r) r
  reached_some r e =
      let w = first_ended 8 part r (sym hindrance_is ∙ e) in
      let found = part_finds w.at w.low r w.found in
      let there : number r ≡ w.at = found.numbered in
      (record { passed = λ m l h less. w.before m l (omega arith); here = λ h. subst (λ (m : ℕ). part m ≡ Some r) (sym there) w.found }, subst (λ (m : ℕ). Found m r) (sym there) found)

  -- ---- none before it holds

  module _ (r : Reason) (reached : Reached r) where
    plain : (n : ℕ) (q : Reason) → 1 ≤ n → n ≤ 8 → part n ≡ given d c i j q → before (n ∷ []) (told r) ≡ true → holds d c i j q ≡ false
    plain n q l h is b = only_none (holds d c i j q) q (sym is ∙ reached.passed n l h (after_plain n r b))

    at : (n : ℕ) → n ≤ 8 → n ≡ number r → part n ≡ Some r
    at n h e = let few : number r ≤ 8 = omega arith in subst (λ (m : ℕ). part m ≡ Some r) (sym e) (reached.here few)

    of_resource :
        (n : ℕ) (f : ℕ → Reason) → ((m : ℕ) → values (f m) ≡ m ∷ []) → 1 ≤ n → n ≤ 8 → part n ≡ first (resources_of d) (λ m. given d c i j (f m))
        → (m : ℕ) → between 1 (resources_of d) m ≡ true → before (n ∷ m ∷ []) (told r) ≡ true → holds d c i j (f m) ≡ false
    of_resource n f tells l h is m named b =
        let range = between_in 1 (resources_of d) m named in
        after n (m ∷ []) r b
        (λ less. only_none (holds d c i j (f m)) (f m) (first_at (resources_of d) (λ x. given d c i j (f x)) (sym is ∙ reached.passed n l h less) m range.0 range.1))
        (λ e more.
        let w = first_ended (resources_of d) (λ x. given d c i j (f x)) r (sym is ∙ at n h e) in
        let it : f w.at ≡ r = (only_some (holds d c i j (f w.at)) w.found).1 in
        let less = subst (λ (ys : List ℕ). before (m ∷ []) ys ≡ true) (sym (ap values it) ∙ tells w.at) more in
        before_cases m w.at [] [] less
        (λ earlier. only_none (holds d c i j (f m)) (f m) (w.before m range.0 earlier))
        (λ q no. not_ended [] no))

    of_minimum : (k t : ℕ) → 1 ≤ k → k ≤ distresses_of d → 1 ≤ t → t ≤ years_of d → before (3 ∷ k ∷ t ∷ []) (told r) ≡ true → holds d c i j (MinimumMissed k t) ≡ false
    of_minimum k t lk hk lt ht b =
        after 3 (k ∷ t ∷ []) r b
        (λ less. missed k (first_at (distresses_of d) minimum (reached.passed 3 (omega arith) (omega arith) less) k lk hk))
        (λ e more.
        let w = first_ended (distresses_of d) minimum r (at 3 (omega arith) e) in
        let v = first_ended (years_of d) (λ y. given d c i j (MinimumMissed w.at y)) r w.found in
        let it : MinimumMissed w.at v.at ≡ r = (only_some (holds d c i j (MinimumMissed w.at v.at)) v.found).1 in
        let less = subst (λ (ys : List ℕ). before (k ∷ t ∷ []) ys ≡ true) (sym (ap values it)) more in
        before_cases k w.at (t ∷ []) (v.at ∷ []) less
        (λ earlier. missed k (w.before k lk earlier))
        (λ same later.
        before_cases t v.at [] [] later
        (λ earlier. subst (λ (x : ℕ). holds d c i j (MinimumMissed x t) ≡ false) (sym same) (only_none (holds d c i j (MinimumMissed w.at t)) (MinimumMissed w.at t) (v.before t lt earlier)))
        (λ q no. not_ended [] no)))
      where
        missed : (k : ℕ) → minimum k ≡ None → holds d c i j (MinimumMissed k t) ≡ false
        missed k e = only_none (holds d c i j (MinimumMissed k t)) (MinimumMissed k t) (first_at (years_of d) (λ y. given d c i j (MinimumMissed k y)) e t lt ht)

    none_before : (q : Reason) → names d q ≡ true → before (told q) (told r) ≡ true → holds d c i j q ≡ false
    unfolding names
    none_before InProgramme named b = plain 1 InProgramme (omega arith) (omega arith) refl b
    none_before Barred named b = plain 2 Barred (omega arith) (omega arith) refl b
    none_before (MinimumMissed k t) named b =
        let w = and_parts (between 1 (distresses_of d) k) (between 1 (years_of d) t) named in
        let x = between_in 1 (distresses_of d) k w.0 in
        let y = between_in 1 (years_of d) t w.1 in
        of_minimum k t x.0 x.1 y.0 y.1 b
    none_before OverallMissed named b = plain 4 OverallMissed (omega arith) (omega arith) refl b
    none_before NoBenefit named b = plain 5 NoBenefit (omega arith) (omega arith) refl b
    none_before LeaderHasNothing named b = plain 6 LeaderHasNothing (omega arith) (omega arith) refl b
    none_before (OverAlone m) named b = of_resource 7 OverAlone (λ x. refl) (omega arith) (omega arith) refl m named b
    none_before (OverBeside m) named b = of_resource 8 OverBeside (λ x. refl) (omega arith) (omega arith) refl m named b
    none_before NoGreaterTotal named b = absurd (omega (arith, after_plain 9 r b, number_le r))

  -- the search found this one,
  pub explained_some : (r : Reason) → hindrance d c i j ≡ Some r → Explained d c i j r
  explained_some r e =
      let w = reached_some r e in
      record { named = w.1.named; holding = w.1.holding; earlier = none_before r w.0 }

  -- or none, and then the last is the reason if it holds
  module _ (none_found : hindrance d c i j ≡ None) where
    pub none_holds : (q : Reason) → names d q ≡ true → number q ≤ 8 → holds d c i j q ≡ false
    none_holds q named h = none_before NoGreaterTotal (reached_none none_found) q named (before_last q h)

    pub explained_last : holds d c i j NoGreaterTotal ≡ true → Explained d c i j NoGreaterTotal
    unfolding names
    explained_last e = record { named = refl; holding = e; earlier = none_before NoGreaterTotal (reached_none none_found) }
