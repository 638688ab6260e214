-- Laws of the search from state to state.
use Prim.Native.Nat.{ℕ, zero, suc, ◌+◌, ◌-◌, ◌≤◌, ◌<◌}
use mathlib.Core.Path.{◌≡◌, refl, ap, ◌∙◌}
use Rattle.std.specs.Prelude.{Option, None, Some}
use native.Mathlib.Omega.{arith}
use Rattle.base.specs.Search.{Run, run, more}

module _ {A : Type 0} (next : A → Option A) where
  run_none : (n : ℕ) (s : A) → next s ≡ None → run next (suc n) s ≡ record { last = s; count = 0 }
  unfolding run
  run_none n s e = rw (e, run)

  -- with any bound
  pub run_end : (n : ℕ) (s : A) → next s ≡ None → run next n s ≡ record { last = s; count = 0 }
  unfolding run
  run_end zero s e = refl
  run_end (suc n) s e = run_none n s e

  run_some : (n : ℕ) (s t : A) → next s ≡ Some t → run next (suc n) s ≡ more (run next n t)
  unfolding run
  run_some n s t e = rw (e, run)

  -- ---- with a number that falls at each step, of states with a property that each step keeps

  module _ (P : A → Type 0) (keep : (s t : A) → next s ≡ Some t → P s → P t) (m : A → ℕ) (falls : (s t : A) → next s ≡ Some t → P s → m t < m s) where
    -- a bound of at least that number is enough: the search ends because there is no next
    pub run_ends : (bound : ℕ) (s : A) → P s → m s ≤ bound → next (run next bound s).last ≡ None
    unfolding run
    run_ends zero s p h = go (next s) refl
      where
        go : (o : Option A) → next s ≡ o → next s ≡ None
        go None e = e
        go (Some t) e = absurd (omega (arith, falls s t e p))
    run_ends (suc bound) s p h = go (λ t. run_ends bound t) (next s) refl
      where
        go : ((t : A) → P t → m t ≤ bound → next (run next bound t).last ≡ None) → (o : Option A) → next s ≡ o → next (run next (suc bound) s).last ≡ None
        go rec None e = rw (run_none bound s e) e
        go rec (Some t) e = rw (run_some bound s t e) (rec t (keep s t e p) (omega (arith, falls s t e p)))

    -- it makes no more steps than the number falls by
    pub run_count : (bound : ℕ) (s : A) → P s → (run next bound s).count + m (run next bound s).last ≤ m s
    unfolding run
    run_count zero s p = omega arith
    run_count (suc bound) s p = go (λ t. run_count bound t) (next s) refl
      where
        go : ((t : A) → P t → (run next bound t).count + m (run next bound t).last ≤ m t) → (o : Option A) → next s ≡ o → (run next (suc bound) s).count + m (run next (suc bound) s).last ≤ m s
        go rec None e = rw (run_none bound s e) (omega arith)
        go rec (Some t) e = rw (run_some bound s t e) (omega (arith, falls s t e p, rec t (keep s t e p)))

  -- what each step keeps holds at the end
  pub run_keeps : (P : A → Type 0) → ((s t : A) → next s ≡ Some t → P s → P t) → (bound : ℕ) (s : A) → P s → P (run next bound s).last
  unfolding run
  run_keeps P keep zero s p = p
  run_keeps P keep (suc bound) s p = go (λ t. run_keeps P keep bound t) (next s) refl
    where
      go : ((t : A) → P t → P (run next bound t).last) → (o : Option A) → next s ≡ o → P (run next (suc bound) s).last
      go rec None e = rw (run_none bound s e) p
      go rec (Some t) e = rw (run_some bound s t e) (rec t (keep s t e p))

-- ---- a loop that makes the steps one by one: after m steps it stands at s

-- the whole search is m steps and what is left of it from s on
pub record Reached {A : Type 0} (next : A → Option A) (bound : ℕ) (start s : A) (m : ℕ) : Type 0 where
  pub spent : m ≤ bound
  pub last : (run next bound start).last ≡ (run next (bound - m) s).last
  pub count : (run next bound start).count ≡ m + (run next (bound - m) s).count

module _ {A : Type 0} (next : A → Option A) (bound : ℕ) (start : A) where
  pub reached_start : Reached next bound start start 0
  reached_start =
      let all : bound - 0 ≡ bound = omega arith in
      record { spent = omega arith; last = rw all; count = rw all (omega arith) }

  pub reached_next : (s t : A) (m : ℕ) → Reached next bound start s m → m < bound → next s ≡ Some t → Reached next bound start t (m + 1)
  reached_next s t m here l e =
      let one : bound - m ≡ suc (bound - (m + 1)) = omega arith in
      let there : run next (bound - m) s ≡ more (run next (bound - (m + 1)) t) = rw one (run_some next (bound - (m + 1)) s t e) in
      record {
        spent = omega arith;
        last = here.last ∙ ap (λ (r : Run A). r.last) there;
        count = let c = ap (λ (r : Run A). r.count) there in omega (arith, here.count);
      }

  -- it ends where there is no next, and where the bound is used up
  pub reached_end : (s : A) (m : ℕ) → Reached next bound start s m → next s ≡ None → ((run next bound start).last ≡ s) × ((run next bound start).count ≡ m)
  reached_end s m here e =
      let ended = run_end next (bound - m) s e in
      (here.last ∙ ap (λ (r : Run A). r.last) ended, let c = ap (λ (r : Run A). r.count) ended in omega (arith, here.count))
