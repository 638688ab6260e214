-- Leaders: what pruning takes from a programme and leaves in it, and that leaders stay respected where something is given to a segment that may
-- have it.
use Prim.Native.Nat.{ℕ, zero, suc, ◌-◌, ◌≤◌, ◌<◌}
use mathlib.Core.Path.{◌≡◌, refl, sym, ◌∙◌}
use mathlib.Core.Bool.{Bool, true, false, ◌||◌, or-true}
use mathlib.Core.List.{List, [], ◌∷◌}
use mathlib.Core.Logic.{◌⊎◌, inl, inr, ⊎_elim}
use native.Mathlib.Omega.{arith}
use borrow.Author.Tests.{ltb-true, lt-ltb, eqb-true, eqb-false, eq-eqb}
use lib.Dec.{ltb, eqb}
use lib.ListN.{get_or, set, length}
use Rattle.base.specs.Choice.{pick}
use Rattle.std.proofs.lemmas.Bool.{or_cases, or_right}
use Rattle.std.proofs.lemmas.List.{set-get_or}
use Rattle.base.proofs.Choice.{pick_all}
use Rattle.base.proofs.All.{all_at, all_true}
use Rattle.rules.specs.Table.{Table}
use Rattle.rules.specs.Phases.{strategy_at, give, led, heeds, respects, pruned}
use Rattle.laws.proofs.Give.{given, kept}
use Rattle.laws.proofs.Gives.{Gives, give_gives, gives_self, gives_then}

-- a segment that gets nothing has nothing, also past the programme's end
set_zero : (l : List ℕ) (n : ℕ) → get_or (set l n 0) n 0 ≡ 0
set_zero [] n = refl
set_zero (x ∷ l) zero = refl
set_zero (x ∷ l) (suc n) = set_zero l n

-- each of n segments has no leader, or one of a lower number
abbrev pub LowerLeaders : (ℕ → ℕ) → ℕ → Type 0
LowerLeaders leader n = (i : ℕ) → 1 ≤ i → i ≤ n → leader i < i

module _ (leader : ℕ → ℕ) where
  -- ---- what decides of a segment

  -- more segments that have something, and a segment that might have something still may
  led_more : (c e : ℕ → ℕ) (k : ℕ) → ((m : ℕ) → 1 ≤ m → 1 ≤ c m → 1 ≤ e m) → led leader c k ≡ true → led leader e k ≡ true
  unfolding led
  led_more c e k more ok = go (eqb (leader k) 0) refl ok
    where
      go : (x : Bool) → eqb (leader k) 0 ≡ x → (x || ltb 0 (c (leader k))) ≡ true → (x || ltb 0 (e (leader k))) ≡ true
      go true q ok = refl
      go false q ok =
          let some-leader = eqb-false (leader k) 0 q in
          lt-ltb 0 (e (leader k)) (more (leader k) (omega arith) (ltb-true 0 (c (leader k)) ok))

  -- a segment heeds its leader as long as neither of them changes
  pub heeds_still : (c e : ℕ → ℕ) (k : ℕ) → c k ≡ e k → (1 ≤ leader k → c (leader k) ≡ e (leader k)) → heeds leader c k ≡ true → heeds leader e k ≡ true
  unfolding heeds led
  heeds_still c e k own his ok = go (eqb (leader k) 0) refl
    where
      go : (x : Bool) → eqb (leader k) 0 ≡ x → (eqb (e k) 0 || (eqb (leader k) 0 || ltb 0 (e (leader k)))) ≡ true
      go true q = rw q (or-true (eqb (e k) 0))
      go false q = let some-leader = eqb-false (leader k) 0 q in rw (← own, ← his (omega arith)) ok

  pub heeds_nothing : (c : ℕ → ℕ) (k : ℕ) → c k ≡ 0 → heeds leader c k ≡ true
  unfolding heeds
  heeds_nothing c k e = rw (eq-eqb (c k) 0 e)

  heeds_led : (c : ℕ → ℕ) (k : ℕ) → led leader c k ≡ true → heeds leader c k ≡ true
  unfolding heeds
  heeds_led c k e = or_right (eqb (c k) 0) (led leader c k) e

  -- ---- pruning

  pub pruned_gives : (t : Table) (n : ℕ) (c : List ℕ) → n ≤ t.segments → Gives t c (pruned leader n c)
  unfolding pruned
  pruned_gives t zero c h = gives_self t c
  pruned_gives t (suc n) c h =
      let e = pruned leader n c in
      let before = pruned_gives t n c (omega arith) in
      pick_all (Gives t c) (led leader (strategy_at e) (suc n)) e (give e (suc n) 0) before
      (gives_then t c e (give e (suc n) 0) before (give_gives t e (suc n) 0 (omega arith) h (inl refl)))

  -- each segment keeps what it has, or gets nothing
  pub pruned_drops : (n : ℕ) (c : List ℕ) (k : ℕ) → 1 ≤ k → (strategy_at (pruned leader n c) k ≡ strategy_at c k) ⊎ (strategy_at (pruned leader n c) k ≡ 0)
  unfolding pruned
  pruned_drops zero c k l = inl refl
  pruned_drops (suc n) c k l =
      let e = pruned leader n c in
      let before = pruned_drops n c k l in
      pick_all (λ (x : List ℕ). (strategy_at x k ≡ strategy_at c k) ⊎ (strategy_at x k ≡ 0)) (led leader (strategy_at e) (suc n)) e (give e (suc n) 0) before
      (dropped e before (eqb k (suc n)) refl)
    where
      dropped : (e : List ℕ) → (strategy_at e k ≡ strategy_at c k) ⊎ (strategy_at e k ≡ 0) → (x : Bool) → eqb k (suc n) ≡ x
          → (strategy_at (give e (suc n) 0) k ≡ strategy_at c k) ⊎ (strategy_at (give e (suc n) 0) k ≡ 0)
      dropped e before true q = inr (rw (eqb-true k (suc n) q) (set_zero e (suc n - 1)))
      dropped e before false q = rw (kept e (suc n) 0 k (omega arith) l (eqb-false k (suc n) q)) before

  -- a programme that respects leaders keeps all
  pub pruned_same : (n : ℕ) (c : List ℕ) → ((k : ℕ) → 1 ≤ k → k ≤ n → heeds leader (strategy_at c) k ≡ true) → pruned leader n c ≡ c
  unfolding pruned heeds
  pruned_same zero c ok = refl
  pruned_same (suc n) c ok =
      rw (pruned_same n c (λ k l h. ok k l (omega arith))) (go (led leader (strategy_at c) (suc n)) refl (ok (suc n) (omega arith) (omega arith)))
    where
      go : (x : Bool) → led leader (strategy_at c) (suc n) ≡ x → (eqb (strategy_at c (suc n)) 0 || led leader (strategy_at c) (suc n)) ≡ true
          → pick (led leader (strategy_at c) (suc n)) c (give c (suc n) 0) ≡ c
      go true q w = rw q
      go false q w =
          let z : strategy_at c (suc n) ≡ 0 = ⊎_elim (λ e. eqb-true (strategy_at c (suc n)) 0 e) (λ e. absurd cc) (or_cases (eqb (strategy_at c (suc n)) 0) (led leader (strategy_at c) (suc n)) w) in
          rw (q, rw z at (set-get_or c (suc n - 1) 0))

  pruned_heeds : (n : ℕ) (c : List ℕ) → LowerLeaders leader n → (k : ℕ) → 1 ≤ k → k ≤ n → heeds leader (strategy_at (pruned leader n c)) k ≡ true
  unfolding pruned
  pruned_heeds zero c lower k l h = absurd (omega arith)
  pruned_heeds (suc n) c lower k l h =
      go (pruned leader n c) (pruned_heeds n c (λ i l h. lower i l (omega arith))) (led leader (strategy_at (pruned leader n c)) (suc n)) refl (eqb k (suc n)) refl
    where
      go : (e : List ℕ) → ((k : ℕ) → 1 ≤ k → k ≤ n → heeds leader (strategy_at e) k ≡ true) → (x : Bool) → led leader (strategy_at e) (suc n) ≡ x → (y : Bool) → eqb k (suc n) ≡ y
          → heeds leader (strategy_at (pick x e (give e (suc n) 0))) k ≡ true
      go e before true q true w = rw (eqb-true k (suc n) w) (heeds_led (strategy_at e) (suc n) q)
      go e before true q false w = let other = eqb-false k (suc n) w in before k l (omega arith)
      go e before false q true w = heeds_nothing (strategy_at (give e (suc n) 0)) k (rw (eqb-true k (suc n) w) (set_zero e (suc n - 1)))
      go e before false q false w =
          let other = eqb-false k (suc n) w in
          let low = lower k l h in
          heeds_still (strategy_at e) (strategy_at (give e (suc n) 0)) k (sym (kept e (suc n) 0 k (omega arith) l other))
          (λ some-leader. sym (kept e (suc n) 0 (leader k) (omega arith) some-leader (λ z. omega arith)))
          (before k l (omega arith))

  pub pruned_respects : (n : ℕ) (c : List ℕ) → LowerLeaders leader n → respects leader n (pruned leader n c) ≡ true
  unfolding respects
  pruned_respects n c lower = all_true n (heeds leader (strategy_at (pruned leader n c))) (pruned_heeds n c lower)

  -- a segment that may have something gets it
  pub give_respects :
      (n : ℕ) (c : List ℕ) (i j : ℕ) → 1 ≤ i → i ≤ length c → 1 ≤ j → led leader (strategy_at c) i ≡ true → respects leader n c ≡ true
      → respects leader n (give c i j) ≡ true
  unfolding respects heeds
  give_respects n c i j l h s ok before = all_true n (heeds leader (strategy_at (give c i j))) (λ k lk hk. each k lk (all_at n (heeds leader (strategy_at c)) before k lk hk) (eqb k i) refl)
    where
      more : (m : ℕ) → 1 ≤ m → 1 ≤ strategy_at c m → 1 ≤ strategy_at (give c i j) m
      more m lm had = go (eqb m i) refl
        where
          go : (x : Bool) → eqb m i ≡ x → 1 ≤ strategy_at (give c i j) m
          go true q = rw (eqb-true m i q, given c i j l h) s
          go false q = rw (kept c i j m l lm (eqb-false m i q)) had

      each : (k : ℕ) → 1 ≤ k → heeds leader (strategy_at c) k ≡ true → (x : Bool) → eqb k i ≡ x → heeds leader (strategy_at (give c i j)) k ≡ true
      each k lk was true q =
          heeds_led (strategy_at (give c i j)) k (led_more (strategy_at c) (strategy_at (give c i j)) k more (rw (eqb-true k i q) ok))
      each k lk was false q =
          ⊎_elim (λ z. heeds_nothing (strategy_at (give c i j)) k (kept c i j k l lk (eqb-false k i q) ∙ eqb-true (strategy_at c k) 0 z))
          (λ may. heeds_led (strategy_at (give c i j)) k (led_more (strategy_at c) (strategy_at (give c i j)) k more may))
          (or_cases (eqb (strategy_at c k) 0) (led leader (strategy_at c) k) was)
