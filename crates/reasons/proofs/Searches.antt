-- Searches by `find_map` over the numbers 1 to n, whose answer is the rules' first of n.
use Prim.Native.Nat.{ℕ, zero, suc, ◌+◌, ◌<◌}
use mathlib.Core.Path.{◌≡◌, refl, sym, subst, ap, ◌∙◌}
use mathlib.Core.Bool.{Bool, true, false}
use mathlib.Core.List.{List, [], ◌∷◌, map-id}
use native.Mathlib.Numerals.{add-one}
use native.Mathlib.Omega.{arith}
use denote.Param.Members.{Mut}
use Rattle.std.proofs.iter.Yields.{gives_Drains}
use Rattle.std.proofs.lemmas.Iterator.{YieldsList}
use Rattle.std.specs.Prelude.{Option, None, Some}
use Rattle.std.specs.Bool.{then_some}
use Rattle.std.specs.Fn.{Called}
use Rattle.std.specs.Iterator.{AlwaysYields, Yields, FindsMapped}
use Rattle.std.specs.Iterator.Runs.{Run, SomeRun, YieldsRun, AllItemsGive, IsFirstToGive}
use Rattle.std.specs.List.{FoldsTo, range_with_len, slice_get}
use Rattle.std.specs.Option.{option_or, MatchOption, IfSome}
use Rattle.base.specs.Choice.{only}
use Rattle.base.specs.Search.{first, or_else}
use Rattle.base.proofs.Search.{or_else_assoc}
use Rattle.rules.specs.declared.Reason.{Reason}

-- ---- the first of a list

module _ {A : Type 0} (f : ℕ → Option A) where
  unfoldable listed : List ℕ → Option A
  listed [] = None
  listed (x ∷ xs) = or_else (f x) (listed xs)

  or_none : (x : Option A) → or_else x None ≡ x
  or_none None = refl
  or_none (Some a) = refl

  next : (m : ℕ) → or_else (first m f) (f (m + 1)) ≡ first (m + 1) f
  unfolding first
  next m = rw add-one

  from_front : (n m : ℕ) → or_else (first m f) (listed (range_with_len (m + 1) n)) ≡ first (m + n) f
  unfolding listed
  from_front zero m = let e : m + 0 ≡ m = omega arith in rw e (or_none (first m f))
  from_front (suc n) m =
      let e : m + suc n ≡ m + 1 + n = omega arith in
      let rest = listed (range_with_len (m + 1 + 1) n) in
      rw e (sym (or_else_assoc (first m f) (f (m + 1)) rest) ∙ ap (λ (x : Option A). or_else x rest) (next m) ∙ from_front n (m + 1))

  first_listed : (n : ℕ) → listed (range_with_len 1 n) ≡ first n f
  unfolding first
  first_listed n = let e : 0 + n ≡ n = omega arith in rw e at (from_front n 0)

  none_listed : (xs : List ℕ) → ((k : ℕ) → IfSome (slice_get xs k) (λ x. None ≡ f x)) → None ≡ listed xs
  unfolding listed
  none_listed [] each = refl
  none_listed (x ∷ xs) each = rw (← each 0) (none_listed xs (λ k. each (suc k)))

-- ---- where a search by calls ends

module _ {S F A : Type 0} (steps : S → Option ℕ → S → Type 0) {g : Mut F (ℕ × Unit {0}) (Option A)} (u : S) (f : F) (h : ℕ → Option A) (gives : (x : ℕ) (r : Option A) (q : F) → Called g f (x, tt) r q → (q ≡ f) × (r ≡ h x)) where
  found :
      (y : A) (x : ℕ) (xs all : List ℕ) (s t : S) (j : F) → AlwaysYields steps (λ x. x) s all → Yields steps s xs t → FoldsTo (λ p x q. Called g p (x, tt) None q) f xs j
      → steps t (Some x) u → (q : F) × Called g j (x, tt) (Some y) q → Some y ≡ listed h all
  unfolding listed
  found y x [] [] s t j e w c p m = absurd (e x u (subst (λ k. steps k (Some x) u) (sym w) p))
  found y x [] (z ∷ all) s t j e w c p m =
      let here : x ≡ z = (e.1 x u (subst (λ k. steps k (Some x) u) (sym w) p)).0 in
      let answer : Some y ≡ h x = (gives x (Some y) m.0 (subst (λ k. Called g k (x, tt) (Some y) m.0) (sym c) m.1)).1 in
      rw (← here, ← answer)
  found y x (v ∷ xs) [] s t j e w c p m = absurd (e v w.0 w.1)
  found y x (v ∷ xs) (z ∷ all) s t j e w c p m =
      let here : v ≡ z = (e.1 v w.0 w.1).0 in
      let answer = gives v None c.0 c.1 in
      rw (← here, ← answer.1)
      (found y x xs all w.0 t j (e.1 v w.0 w.1).1 w.2 (subst (λ k. FoldsTo (λ p x q. Called g p (x, tt) None q) k xs j) answer.0 c.2) p m)

  none_gave : (s : S) (p : Run steps) → p.from ≡ s → p.whole ≡ true → AllItemsGive p g f None → (all : List ℕ) → AlwaysYields steps (λ x. x) s all → None ≡ listed h all
  unfolding YieldsRun
  none_gave s p from whole each all e =
      let ended = p.gave.0.2 whole in
      let same = gives_Drains steps (λ x. x) p.items all s e (ended.0, (p.gave.0.0, subst (λ k. Yields steps k p.items p.gave.0.0) from p.gave.0.1, ended.1)) in
      let calls = each (λ a r q k. (gives a.0 r q k).0) in
      rw (← same, map-id)
      (none_listed h p.items (λ k. subst (λ o. IfSome o (λ x. None ≡ h x)) (p.gave.1 k) (no_answer (p.at k) (calls k))))
    where
      no_answer : (o : Option ℕ) → IfSome o (λ x. Called g f (x, tt) None f) → IfSome o (λ x. None ≡ h x)
      no_answer None k = k
      no_answer (Some x) k = (gives x None f k).1

  pub first_from_find_map :
      {s : S} (n : ℕ) (r : Option A) → FindsMapped steps g s f r u
      → SomeRun steps s (λ p. MatchOption r ((p.whole ≡ true) × AllItemsGive p g f None) (λ y. (i : ℕ) × (i < p.len) × (p.len ≡ i + 1) × IsFirstToGive p g f (Some y) None i))
      → YieldsList steps (λ x. x) s (range_with_len 1 n) → r ≡ first n h
  first_from_find_map {s} n None ran runs e = none_gave s runs.0 runs.1 runs.2.0 runs.2.1 _ e.runs ∙ first_listed h n
  first_from_find_map {s} n (Some y) ran runs e = stops ran.1 ran.3.2 ran.5
    where
      stops : (o : Option ℕ) → steps ran.3.0 o u → MatchOption o (Some y ≡ None) (λ x. (q : F) × Called g ran.2 (x, tt) (Some y) q) → Some y ≡ first n h
      stops None p m = cc
      stops (Some x) p m = found y x ran.0 _ s ran.3.0 ran.2 e.runs ran.3.1 ran.4 p m ∙ first_listed h n

-- ---- the library's words for a reason that holds, and for the first of two, are the rules': then_some is only, and option_or is or_else.
-- A law for each, as the rules are read without the library's; both go on from what is known of the parts.

pub given_by : (a : Reason) {x : Option Reason} {s t : Bool} → x ≡ then_some s a → s ≡ t → x ≡ only t a
given_by a {t = true} e f = rw f at e
given_by a {t = false} e f = rw f at e

pub or_is : {x y b p q : Option Reason} → x ≡ option_or y b → y ≡ p → b ≡ q → x ≡ or_else p q
or_is {p = None} e f g = (rw f at e) ∙ g
or_is {p = Some a} e f g = rw f at e
