-- Laws of the best of 1 to n.
use Prim.Native.Nat.{ℕ, zero, suc, ◌+◌, ◌≤◌, ◌<◌}
use mathlib.Core.Path.{◌≡◌, refl, ap, sym, ◌∙◌}
use mathlib.Core.Bool.{Bool, true, false, ◌&&◌, ◌||◌}
use mathlib.Core.Logic.{◌⊎◌, inl, inr}
use native.Mathlib.Nat.{eq-or-lt_of_le, le_refl}
use native.Mathlib.Numerals.{add-one}
use native.Mathlib.Omega.{arith}
use borrow.Author.Tests.{ltb-true, ltb-false, eqb-true, eqb-false, eq-eqb, ne_eqb}
use lib.Dec.{ltb, eqb}
use Rattle.base.specs.Choice.{pick}
use Rattle.base.specs.Over.{best, better_of}
use Rattle.base.proofs.Choice.{pick_all}
use Rattle.base.proofs.Sums.{up_to}

best_none : (p : ℕ → Bool) (better : ℕ → ℕ → Bool) → 0 ≡ best 0 p better
unfolding best
best_none p better = refl

pub best_next : (n : ℕ) (p : ℕ → Bool) (better : ℕ → ℕ → Bool) {b : ℕ} → b ≡ best n p better → better_of p better b (n + 1) ≡ best (n + 1) p better
unfolding best
best_next n p better e = rw (add-one, e)

-- ---- the best by any comparison

module _ (p : ℕ → Bool) (better : ℕ → ℕ → Bool) where
  -- it is 0, or one of 1 to n that passes
  pub best_ind : (P : ℕ → Type 0) (n : ℕ) → P 0 → ((k : ℕ) → 1 ≤ k → k ≤ n → p k ≡ true → P k) → P (best n p better)
  unfolding best better_of
  best_ind P zero none each = none
  best_ind P (suc n) none each =
      go (best_ind P n none (λ k l h. each k l (omega arith))) (p (suc n)) refl (eqb (best n p better) 0 || better (suc n) (best n p better))
    where
      go : P (best n p better) → (x : Bool) → p (suc n) ≡ x → (y : Bool) → P (pick (x && y) (suc n) (best n p better))
      go earlier true e true = each (suc n) (omega arith) (omega arith) e
      go earlier true e false = earlier
      go earlier false e y = earlier

  -- the cases of a turn
  pub better_passed : (b m : ℕ) → p m ≡ false → better_of p better b m ≡ b
  unfolding better_of
  better_passed b m e = rw e

  pub better_first : (b m : ℕ) → p m ≡ true → b ≡ 0 → better_of p better b m ≡ m
  unfolding better_of
  better_first b m e z = rw (e, eq-eqb b 0 z)

  pub better_taken : (b m : ℕ) → p m ≡ true → 1 ≤ b → better m b ≡ true → better_of p better b m ≡ m
  unfolding better_of
  better_taken b m e l f = rw (e, ne_eqb b 0 (λ z. omega arith), f)

  pub better_worse : (b m : ℕ) → p m ≡ true → 1 ≤ b → better m b ≡ false → better_of p better b m ≡ b
  unfolding better_of
  better_worse b m e l f = rw (e, ne_eqb b 0 (λ z. omega arith), f)

  -- it is not 0 where one passes
  pub best_some : (n k : ℕ) → 1 ≤ k → k ≤ n → p k ≡ true → 1 ≤ best n p better
  unfolding best better_of
  best_some zero k l h e = absurd (omega arith)
  best_some (suc n) k l h e = go (λ u. best_some n k l u e) (p (suc n)) refl (eqb (best n p better) 0) refl (better (suc n) (best n p better))
    where
      go : (k ≤ n → 1 ≤ best n p better) → (x : Bool) → p (suc n) ≡ x → (y : Bool) → eqb (best n p better) 0 ≡ y → (z : Bool)
          → 1 ≤ pick (x && (y || z)) (suc n) (best n p better)
      go earlier true pn true e0 z = omega arith
      go earlier true pn false e0 true = omega arith
      go earlier true pn false e0 false = omega (arith, eqb-false (best n p better) 0 e0)
      go earlier false pn y e0 z = up_to h (λ q. cc) earlier

-- two searches in which the same numbers pass and compare alike
pub best_cong :
    (n : ℕ) (p q : ℕ → Bool) (f g : ℕ → ℕ → Bool) → ((k : ℕ) → 1 ≤ k → k ≤ n → p k ≡ q k)
    → ((a b : ℕ) → 1 ≤ a → a ≤ n → 1 ≤ b → b ≤ n → p a ≡ true → p b ≡ true → f a b ≡ g a b) → best n p f ≡ best n q g
unfolding best better_of
best_cong zero p q f g same alike = refl
best_cong (suc n) p q f g same alike =
    let earlier : best n p f ≡ best n q g =
    best_cong n p q f g (λ k l h. same k l (omega arith)) (λ a b la ha lb hb. alike a b la (omega arith) lb (omega arith)) in
    rw (← earlier, ← same (suc n) (omega arith) (omega arith))
    (best_ind p f (λ b. better_of p f b (suc n) ≡ better_of p g b (suc n)) n refl
    (λ b l h e. go b (p (suc n)) refl (λ e'. alike (suc n) b (omega arith) (omega arith) l (omega arith) e' e)))
  where
    go : (b : ℕ) (x : Bool) → p (suc n) ≡ x → (p (suc n) ≡ true → f (suc n) b ≡ g (suc n) b) → better_of p f b (suc n) ≡ better_of p g b (suc n)
    go b true e h = rw (h e)
    go b false e h = rw e

-- ---- the best by a number f: it passes where there is one, and none that passes has a greater number

module _ (p : ℕ → Bool) (f : ℕ → ℕ) where
  abbrev pub more_by : ℕ → ℕ → Bool
  more_by a b = ltb (f b) (f a)

  -- the two cases of a turn
  turn : (P : ℕ → Type 0) (b m : ℕ) → (p m ≡ true → (b ≡ 0) ⊎ (f b < f m) → P m) → ((p m ≡ false) ⊎ ((1 ≤ b) × (f m ≤ f b)) → P b) → P (better_of p more_by b m)
  unfolding better_of
  turn P b m taken kept = go (p m) refl (eqb b 0) refl (ltb (f b) (f m)) refl
    where
      go : (x : Bool) → p m ≡ x → (y : Bool) → eqb b 0 ≡ y → (z : Bool) → ltb (f b) (f m) ≡ z → P (better_of p more_by b m)
      go false e y ey z ez = rw e (kept (inl e))
      go true e true ey z ez = rw (e, ey) (taken e (inl (eqb-true b 0 ey)))
      go true e false ey true ez = rw (e, ey, ez) (taken e (inr (ltb-true (f b) (f m) ez)))
      go true e false ey false ez =
          let some-b : 1 ≤ b = omega (arith, eqb-false b 0 ey) in
          rw (e, ey, ez) (kept (inr (some-b, ltb-false (f b) (f m) ez)))

  -- b is one, and has no smaller number than k
  abbrev pub Most : ℕ → ℕ → Type 0
  Most k b = (1 ≤ b) × (f k ≤ f b)

  most_taken : (n k b : ℕ) → (k < suc n → Most k b) → (k ≡ suc n) ⊎ (k < suc n) → (b ≡ 0) ⊎ (f b < f (suc n)) → Most k (suc n)
  most_taken n k b earlier (inl q) w = (omega arith, rw q (le_refl (f (suc n))))
  most_taken n k b earlier (inr lt) (inl z) = absurd (omega (arith, (earlier lt).0))
  most_taken n k b earlier (inr lt) (inr g) = (omega arith, omega (arith, (earlier lt).1))

  most_kept : (n k b : ℕ) → p k ≡ true → (k < suc n → Most k b) → (k ≡ suc n) ⊎ (k < suc n) → (p (suc n) ≡ false) ⊎ ((1 ≤ b) × (f (suc n) ≤ f b)) → Most k b
  most_kept n k b e earlier (inl q) (inl z) = cc
  most_kept n k b e earlier (inl q) (inr w) = (w.0, rw q w.1)
  most_kept n k b e earlier (inr lt) w = earlier lt

  pub best_most : (n k : ℕ) → 1 ≤ k → k ≤ n → p k ≡ true → Most k (best n p more_by)
  unfolding best
  best_most zero k l h e = absurd (omega arith)
  best_most (suc n) k l h e =
      let earlier : k < suc n → Most k (best n p more_by) = λ lt. best_most n k l (omega arith) e in
      turn (Most k) (best n p more_by) (suc n) (λ pm. most_taken n k (best n p more_by) earlier (eq-or-lt_of_le h))
      (most_kept n k (best n p more_by) e earlier (eq-or-lt_of_le h))

  -- and it passes
  pub best_passes : (n : ℕ) → 1 ≤ best n p more_by → p (best n p more_by) ≡ true
  unfolding best
  best_passes zero h = absurd (omega arith)
  best_passes (suc n) h =
      turn (λ b. 1 ≤ b → p b ≡ true) (best n p more_by) (suc n) (λ pm w l. pm) (λ w l. best_passes n l) h

-- ---- a loop that keeps the best so far with its number, where none has 0 and those that pass have more

pub record Leads (p : ℕ → Bool) (f : ℕ → ℕ) (n b v : ℕ) : Type 0 where
  pub none_has : f 0 ≡ 0
  pub some_have : (k : ℕ) → p k ≡ true → 1 ≤ f k
  pub leader : b ≡ best n p (more_by p f)
  pub number : v ≡ f b

module _ (p : ℕ → Bool) (f : ℕ → ℕ) where
  pub leads_none : f 0 ≡ 0 → ((k : ℕ) → p k ≡ true → 1 ≤ f k) → Leads p f 0 0 0
  leads_none z some = record { none_has = z; some_have = some; leader = best_none p (more_by p f); number = sym z }

  module _ (n b v : ℕ) (leads : Leads p f n b v) where
    pub leads_taken : {w : ℕ} → w ≡ f (n + 1) → p (n + 1) ≡ true → v < w → Leads p f (n + 1) (n + 1) w
    leads_taken is e h =
        record {
          none_has = leads.none_has;
          some_have = leads.some_have;
          leader = sym (turn p f (λ m. m ≡ n + 1) b (n + 1) (λ _ _. refl) kept) ∙ best_next n p (more_by p f) leads.leader;
          number = is;
        }
      where
        kept : (p (n + 1) ≡ false) ⊎ ((1 ≤ b) × (f (n + 1) ≤ f b)) → b ≡ n + 1
        kept (inl z) = cc
        kept (inr w) = absurd (omega (arith, leads.number))

    pub leads_end : {m : ℕ} → n ≡ m → b ≡ best m p (more_by p f)
    leads_end e = leads.leader ∙ ap (λ (k : ℕ). best k p (more_by p f)) e

    pub leads_kept : (p (n + 1) ≡ true → f (n + 1) ≤ v) → Leads p f (n + 1) b v
    leads_kept h =
        record {
          none_has = leads.none_has;
          some_have = leads.some_have;
          leader = sym (turn p f (λ m. m ≡ b) b (n + 1) taken (λ _. refl)) ∙ best_next n p (more_by p f) leads.leader;
          number = leads.number;
        }
      where
        taken : p (n + 1) ≡ true → (b ≡ 0) ⊎ (f b < f (n + 1)) → n + 1 ≡ b
        taken e (inl z) = absurd (omega (arith, h e, leads.number, ap f z, leads.none_has, leads.some_have (n + 1) e))
        taken e (inr w) = absurd (omega (arith, h e, leads.number))

pub best_le : (n : ℕ) (p : ℕ → Bool) (better : ℕ → ℕ → Bool) → best n p better ≤ n
unfolding best better_of
best_le zero p better = omega arith
best_le (suc n) p better =
    pick_all (λ (k : ℕ). k ≤ suc n) (p (suc n) && (eqb (best n p better) 0 || better (suc n) (best n p better))) (suc n) (best n p better) (omega arith) (omega (arith, best_le n p better))
