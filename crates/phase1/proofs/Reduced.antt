-- Of the numbers of 1, .. n that pass the best by a comparison, as `min` or `reduce` finds it over a chain of what is made of them.
use Prim.Native.Nat.{ℕ, zero, suc, ◌+◌, ◌≤◌, ◌<◌}
use mathlib.Core.Path.{◌≡◌, refl, ap, sym, subst, ◌∙◌}
use mathlib.Core.Bool.{Bool, true, false}
use mathlib.Core.List.{List, [], ◌∷◌, ◌++◌, append-nil}
use Rattle.std.specs.Prelude.{Option, None, Some}
use Rattle.std.specs.List.{reduce, filter_map, cons_option, range_with_len, FoldsTo}
use Rattle.std.specs.Iterator.{ReducesItems}
use Rattle.std.proofs.lemmas.List.Sums.{fold-append}
use Rattle.std.proofs.lemmas.List.Elements.{filter_map-append}
use Rattle.std.proofs.lemmas.Iterator.{YieldsList}
use Rattle.std.proofs.lemmas.Iterator.Consumers.{reduce_from_yields_List}
use denote.Param.Members.{Mut, Called}
use native.Mathlib.Omega.{arith}
use Rattle.base.specs.Choice.{pick}
use Rattle.base.specs.Over.{best, better_of}
use Rattle.base.proofs.Best.{best_next, best_le, better_passed, better_first, better_taken, better_worse}

range_more : (a n : ℕ) → range_with_len a (suc n) ≡ range_with_len a n ++ (a + n) ∷ []
range_more a zero = let e : a ≡ a + 0 = omega arith in ap (λ (k : ℕ). k ∷ []) e
range_more a (suc n) =
    let e : a + 1 + n ≡ a + suc n = omega arith in
    ap (λ (ks : List ℕ). a ∷ ks) (range_more (a + 1) n ∙ ap (λ (k : ℕ). range_with_len (a + 1) n ++ k ∷ []) e)

-- of what is made of the numbers f takes the better one, of two where neither is better the lower
module _ {A : Type 0} (p : ℕ → Bool) (better : ℕ → ℕ → Bool) (of : ℕ → A) (f : A → A → A)
    (turn : (a b : ℕ) → 1 ≤ a → a < b → f (of a) (of b) ≡ pick (better b a) (of b) (of a)) where
  abbrev pub item : ℕ → Option A
  item k = pick (p k) (Some (of k)) None

  abbrev pub held : ℕ → Option A
  held zero = None
  held (suc k) = Some (of (suc k))

  held_some : (i : ℕ) → 1 ≤ i → Some (of i) ≡ held i
  held_some zero l = absurd (omega arith)
  held_some (suc i) l = refl

  abbrev after : Option A → A → Option A
  after None y = Some y
  after (Some x) y = Some (f x y)

  reduce_more : (xs : List A) (y : A) → reduce f (xs ++ y ∷ []) ≡ after (reduce f xs) y
  reduce_more [] y = refl
  reduce_more (x ∷ xs) y = ap Some (fold-append f x xs (y ∷ []))

  abbrev pub items : ℕ → List A
  items n = filter_map (λ k. item (k + 1)) (range_with_len 0 n)

  items_more : (n : ℕ) → items (suc n) ≡ items n ++ cons_option (item (n + 1)) []
  items_more n =
      let at : 0 + n ≡ n = omega arith in
      ap (filter_map (λ k. item (k + 1))) (range_more 0 n ∙ ap (λ (k : ℕ). range_with_len 0 n ++ k ∷ []) at)
      ∙ filter_map-append (λ k. item (k + 1)) (range_with_len 0 n) (n ∷ [])

  -- i, which passes, is compared with k before it
  taken : (k i : ℕ) → k < i → p i ≡ true → after (held k) (of i) ≡ held (better_of p better k i)
  taken zero i l e = held_some i (omega arith) ∙ ap held (sym (better_first p better 0 i e refl))
  taken (suc k) i l e = go (better i (suc k)) refl
    where
      go : (x : Bool) → better i (suc k) ≡ x → Some (f (of (suc k)) (of i)) ≡ held (better_of p better (suc k) i)
      go true h = rw (turn (suc k) i (omega arith) l, h) (held_some i (omega arith) ∙ ap held (sym (better_taken p better (suc k) i e (omega arith) h)))
      go false h = rw (turn (suc k) i (omega arith) l, h) (ap held (sym (better_worse p better (suc k) i e (omega arith) h)))

  next : (n : ℕ) → reduce f (items n) ≡ held (best n p better) → reduce f (items (suc n)) ≡ held (best (n + 1) p better)
  next n is = ap (reduce f) (items_more n) ∙ go (p (n + 1)) refl ∙ ap held (best_next n p better refl)
    where
      go : (x : Bool) → p (n + 1) ≡ x → reduce f (items n ++ cons_option (item (n + 1)) []) ≡ held (better_of p better (best n p better) (n + 1))
      go false e = rw (e, better_passed p better (best n p better) (n + 1) e) (ap (reduce f) (append-nil (items n)) ∙ is)
      go true e =
          rw e
          (reduce_more (items n) (of (n + 1))
          ∙ ap (λ (o : Option A). after o (of (n + 1))) is
          ∙ taken (best n p better) (n + 1) (omega (arith, best_le n p better)) e)

  pub reduced : (n : ℕ) → reduce f (items n) ≡ held (best n p better)
  unfolding best
  reduced zero = refl
  reduced (suc n) = let up : n + 1 ≡ suc n = omega arith in next n (reduced n) ∙ ap (λ (k : ℕ). held (best k p better)) up

-- `reduce` by a closure that computes f, over a chain that gives the list
module _ {A F : Type 0} (g : Mut F (A × (A × Unit {0})) A) (f : A → A → A) {h : F} (acts : (x y r : A) (q : F) → Called g h (x, (y, tt)) r q → (q ≡ h) × (r ≡ f x y)) where
  turns : (ys : List A) (p q : F × A) → p.0 ≡ h → FoldsTo {P = F × A} (λ x y r. Called g x.0 (x.1, (y, tt)) r.1 r.0) p ys q → FoldsTo (λ x y r. r ≡ f x y) p.1 ys q.1
  turns [] p q e d = ap (λ w. w.1) d
  turns (y ∷ ys) p q e d =
      let m = acts p.1 y d.0.1 d.0.0 (subst (λ w. Called g w (p.1, (y, tt)) d.0.1 d.0.0) e d.1) in
      (d.0.1, m.1, turns ys d.0 q m.0 d.2)

  pub reduce_by_closure : {S : Type 0} {steps : S → Option A → S → Type 0} {all : List A} (s : S) (r : Option A) → ReducesItems steps g s h r → YieldsList steps (λ x. x) s all → r ≡ reduce f all
  reduce_by_closure s None d e = reduce_from_yields_List f s None d e
  reduce_by_closure s (Some y) d e = reduce_from_yields_List f s (Some y) (d.0, d.1, d.3, turns d.1 (h, d.0) (d.2, y) refl d.4) e
