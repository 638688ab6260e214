-- What a `try_fold` gives, whose closure answers an option by its arguments alone.
use Rattle.std.proofs.Common.{ℕ, ◌≤◌, ◌<◌, ◌≡◌, suc, List, [], ◌∷◌, ◌++◌, Option, None, Some, map, length, drop, get_or, refl, sym, ap, subst, ◌∙◌, take-append-drop, drop-cons, drop_of_length-le, arith}
use Rattle.std.specs.Iterator.{TryFoldTurn, TryFoldsItems}
use Rattle.std.specs.List.{FoldsTo}
use Rattle.std.specs.Option.{MatchOption, option_and_then}
use Rattle.std.specs.ControlFlow.{continue_value}
use Rattle.std.proofs.lemmas.Iterator.{YieldsList}
use Rattle.std.proofs.lemmas.Iterator.Consumers.{YieldsList-so_far, YieldsList-turn, YieldsList-end}
use denote.Param.Members.{Mut, Called}

-- h over the items, from v, for as long as it gives a value
abbrev pub folded : {A B : Type 0} → (B → A → Option B) → B → List A → Option B
folded h v [] = Some v
folded h v (x ∷ xs) = option_and_then (λ w. folded h w xs) (h v x)

module _ {A B C F : Type 0} (E : Type 0) (v : A → B) (g : Mut F (C × (A × Unit {0})) (Option C)) (h : C → B → Option C) (f : F) (step : (a : C) (x : A) (r : Option C) (q : F) → Called g f (a, (x, tt)) r q → (q ≡ f) × (r ≡ h a (v x))) where
  turns : (xs : List A) (p q : F × C) (rest : List B) → p.0 ≡ f → FoldsTo {P = F × C} (TryFoldTurn {E = E} g (λ s r. s ≡ continue_value r)) p xs q → (q.0 ≡ f) × (folded h p.1 (map v xs ++ rest) ≡ folded h q.1 rest)
  turns [] p q rest a c = (ap (λ w. w.0) (sym c) ∙ a, ap (λ (w : F × C). folded h w.1 rest) c)
  turns (x ∷ xs) p q rest a c =
      let m = step p.1 x c.1.0 c.0.0 (subst (λ w. Called g w (p.1, (x, tt)) c.1.0 c.0.0) a c.1.1) in
      let n = turns xs c.0 q rest m.0 c.2 in
      (n.0, ap (option_and_then (λ w. folded h w (map v xs ++ rest))) (sym m.1 ∙ c.1.2) ∙ n.1)

  -- where they end: behind the last item, or at one for which there is no value
  last : (o : Option A) (ys : List B) (i : ℕ) (p : F × C) (r : Option C) → p.0 ≡ f → MatchOption o (length ys ≤ i) (λ x. (i < length ys) × (v x ≡ get_or ys i (v x)))
      → MatchOption o (r ≡ Some p.1) (λ x. (s : Option C) × (q : F) × (e : E) × Called g p.0 (p.1, (x, tt)) s q × (s ≡ None) × (r ≡ None)) → folded h p.1 (drop i ys) ≡ r
  last None ys i p r a k c = ap (folded h p.1) (drop_of_length-le ys {i = i} k) ∙ sym c
  last (Some x) ys i p r a k c =
      let m = step p.1 x c.0 c.1 (subst (λ w. Called g w (p.1, (x, tt)) c.0 c.1) a c.3) in
      ap (folded h p.1) (drop-cons ys i (v x) k.0 ∙ ap (λ y. y ∷ drop (suc i) ys) (sym k.1)) ∙ ap (option_and_then (λ w. folded h w (drop (suc i) ys))) (sym m.1 ∙ c.4) ∙ sym c.5

pub try_fold_from_yields_List : {S A B C F E : Type 0} {steps : S → Option A → S → Type 0} {v : A → B} {s : S} {ys : List B} {g : Mut F (C × (A × Unit {0})) (Option C)} {f : F} (h : C → B → Option C) (init : C) (r : Option C) (u : S)
    → TryFoldsItems steps g (λ s r. s ≡ continue_value r) (λ (e : E) r. r ≡ None) s f init r u → YieldsList steps v s ys
    → ((a : C) (x : A) (r : Option C) (q : F) → Called g f (a, (x, tt)) r q → (q ≡ f) × (r ≡ h a (v x))) → r ≡ folded h init ys
try_fold_from_yields_List {S} {A} {B} {C} {F} {E} {steps} {v} {s} {ys} {g} {f} h init r u ran road step =
    let i = length ran.0 in
    let t = turns E v g h f step ran.0 (f, init) (ran.2, ran.3) (drop i ys) refl ran.5 in
    let whole = sym (take-append-drop i ys) ∙ ap (λ l. l ++ drop i ys) (sym (YieldsList-so_far road ran.0 ran.4.0 ran.4.1)) in
    sym (ap (folded h init) whole ∙ t.1 ∙ last E v g h f step ran.1 ys i (ran.2, ran.3) r t.0 (at ran.1 ran.4.2) ran.6)
  where
    at : (o : Option A) → steps ran.4.0 o u → MatchOption o (length ys ≤ length ran.0) (λ x. (length ran.0 < length ys) × (v x ≡ get_or ys (length ran.0) (v x)))
    at None p = omega (arith, (YieldsList-end road ran.0 ran.4.0 ran.4.1 None u refl p).1)
    at (Some x) p = YieldsList-turn road ran.0 ran.4.0 ran.4.1 (Some x) u x refl p
